-- The book of recorded events is what is live by name.
use Rattle.std.proofs.Common.{◌≡◌, ℕ, ◌≤◌, ◌==◌, eqb, Bool, true, false, ◌&&◌, not, List, [], ◌∷◌, ◌++◌, map, filter, refl, ap, sym, subst}
use Rattle.std.proofs.Common.{◌∙◌, arith, Contains, Some, None}
use Rattle.std.specs.List.{count_by}
use Rattle.std.proofs.lemmas.Bool.{eqb-true, eq-eqb, false≢true}
use Rattle.std.proofs.lemmas.List.Elements.{All-contains}
use Rattle.guillotiere.specs.Boxes.{Sides, IsPositive}
use Rattle.guillotiere.specs.Choice.{Options, AreValid}
use Rattle.guillotiere.specs.Pixels.{sides_of, box_of}
use Rattle.guillotiere.specs.declared.Size.{Size}
use Rattle.guillotiere.specs.declared.Allocation.{Allocation}
use Rattle.guillotiere.specs.declared.Change.{Change}
use Rattle.guillotiere.specs.Trees.{Grant, grant}
use Rattle.guillotiere.specs.States.{State, IsLive, live_in}
use Rattle.guillotiere.specs.Refits.{Transfer}
use Rattle.guillotiere.specs.Replies.{grant_of}
use Rattle.guillotiere.specs.Rearranging.{transfer_of}
use Rattle.guillotiere.specs.Renaming.{renamed_grant}
use Rattle.guillotiere.specs.Steps as atlas
use Rattle.guillotiere.specs.Steps.{AtlasCall}
use Rattle.guillotiere.specs.Laws.StepLaws.{live_count, IsGrantStep, IsFreeingStep}
use Rattle.guillotiere.proofs.ListLemmas.ListCounts.{count_by-cons, count_by-append, count_some}
use Rattle.guillotiere.proofs.StepLemmas.Existence.{starts_are_sound}
use Rattle.guillotiere.proofs.StepLemmas.StepEffects.{grants_lie_inside, freeings_remove_one, growths_keep_boxes, rearrangings_lose_nothing}
use Rattle.guillotiere.proofs.TreeLemmas.TreeBasics.{one_if}
use Rattle.guillotiere.proofs.TreeLemmas.TreeIds.{Contains-none}
use Rattle.guillotiere.proofs.StepLemmas.LiveBoxes.{counted_live, live_counted}
use Rattle.guillotiere.proofs.ListLemmas.CallerLemmas.{count_by-permutation}
use Rattle.guillotiere_recording.specs.Events.{EventValue, ListValue}
use Rattle.guillotiere_recording.specs.Events.EventValue.{Allocate, Deallocate, Grow, Rearrange, ResizeAndRearrange}
use Rattle.guillotiere_recording.specs.Sessions.{Named, IsNamed, KeepsNames, named_boxes, renamed_transfer, GrantsUnder, FreesUnder}
use Rattle.guillotiere_recording.specs.Sessions.{RearrangesUnder, Leads, LeadOn, fresh_session}
use Rattle.guillotiere_recording.specs.Books.{AreSameGrants, moved_boxes, booked, book_from, SessionsAreNamed, BooksAreTrue}
use Rattle.guillotiere_recording.proofs.Counts.{count_map, count_filter, count_alike, map_alike}
use Rattle.guillotiere_recording.proofs.NamedStates.{events_keep_names, grant_counts, freeing_less}

-- What is listed as live is live.
pub listed_is_live : (s : State) (g : Grant) → Contains (live_in s) g → IsLive s g.id
listed_is_live s g at = counted_live s g.id (count_some (λ k. k.id == g.id) (live_in s) g at (eq-eqb g.id g.id refl))

-- What is live before and after has the same boxes under the same names.
same_boxes : (old new : Named) (gs : List Grant) → KeepsNames old new
    → ((g : Grant) → Contains gs g → IsLive old.state g.id) → ((g : Grant) → Contains gs g → IsLive new.state g.id)
    → map (renamed_grant new.name) gs ≡ map (renamed_grant old.name) gs
same_boxes old new gs kept before after =
    map_alike (renamed_grant new.name) (renamed_grant old.name) gs (λ g at. ap (λ n. grant n g.box) (kept g.id (before g at) (after g at)))

-- Nothing changed but perhaps the order and the names of what isn't live.
still : (old new : Named) → live_in new.state ≡ live_in old.state → KeepsNames old new
    → named_boxes new ≡ named_boxes old
still old new same kept =
    ap (map (renamed_grant new.name)) same
    ∙ same_boxes old new (live_in old.state) kept (λ g at. listed_is_live old.state g at)
    (λ g at. listed_is_live new.state g (subst (λ gs. Contains gs g) (sym same) at))

granted_book : (held : List Grant) (old new : Named) (size : Size) (a : Allocation) → IsNamed old
    → AreSameGrants held (named_boxes old)
    → GrantsUnder old size a new → AreSameGrants (held ++ grant_of a ∷ []) (named_boxes new)
granted_book held old new size a good same h p =
    let g : Grant = grant h.id (box_of a.rectangle) in
    let step = grants_lie_inside old.state new.state (sides_of size) g good.sound h.step in
    let f : Grant → Grant = renamed_grant new.name in
    let left = count_by-append p held (grant_of a ∷ []) in
    let one = count_by-cons p (grant_of a) [] in
    let permuted = count_by-permutation (λ k. p (f k)) (g ∷ live_in old.state) (live_in new.state) step.live in
    let head = count_by-cons (λ k. p (f k)) g (live_in old.state) in
    let all = count_map f p (live_in new.state) in
    let rest = count_map f p (live_in old.state) in
    let olds : map f (live_in old.state) ≡ named_boxes old =
    same_boxes old new (live_in old.state) h.kept (λ k at. listed_is_live old.state k at) (λ k at. after step k at) in
    let its : one_if (p (f g)) ≡ one_if (p (grant_of a)) = ap (λ n. one_if (p (grant n (box_of a.rectangle)))) h.named in
    let before = same p in
    let again = ap (count_by p) olds in
    omega (arith, left, one, permuted, head, all, rest, its, before, again)
  where
    after : IsGrantStep old.state (sides_of size) (grant h.id (box_of a.rectangle)) new.state → (k : Grant)
        → Contains (live_in old.state) k → IsLive new.state k.id
    after step k at =
        let some : 1 ≤ live_count k.id old.state = live_counted old.state k.id (listed_is_live old.state k at) in
        let e = grant_counts old.state new.state (sides_of size) (grant h.id (box_of a.rectangle)) step k.id in
        counted_live new.state k.id (omega (arith, some, e))

freed_book : (held : List Grant) (old new : Named) (name : ℕ) → IsNamed old → AreSameGrants held (named_boxes old)
    → FreesUnder old name new → AreSameGrants (filter (λ g. not (g.id == name)) held) (named_boxes new)
freed_book held old new name good same h p =
    let step = freeings_remove_one old.state new.state h.id good.sound h.step in
    let f : Grant → Grant = renamed_grant old.name in
    let q : Grant → Bool = λ g. not (g.id == name) in
    let left = count_filter q p held in
    let before = same (λ g. q g && p g) in
    let mapped = count_map f (λ g. q g && p g) (live_in old.state) in
    let alike : count_by (λ g. q (f g) && p (f g)) (live_in old.state) ≡ count_by (λ g. not (g.id == h.id) && p (f g)) (live_in old.state) =
    count_alike (λ g. q (f g) && p (f g)) (λ g. not (g.id == h.id) && p (f g)) (live_in old.state)
    (λ g at. ap (λ b. not b && p (f g)) (told g at)) in
    let back = count_filter (λ g. not (g.id == h.id)) (λ g. p (f g)) (live_in old.state) in
    let kept = ap (count_by (λ g. p (f g))) step.live in
    let after = count_map f p (live_in new.state) in
    let news : named_boxes new ≡ map f (live_in new.state) = same_boxes old new (live_in new.state) h.kept (λ g at. was step g at)
    (λ g at. listed_is_live new.state g at) in
    left ∙ before ∙ mapped ∙ alike ∙ sym back ∙ sym kept ∙ sym after ∙ sym (ap (count_by p) news)
  where
    told : (g : Grant) → Contains (live_in old.state) g → (old.name g.id == name) ≡ (g.id == h.id)
    told g at = by_test (eqb g.id h.id) refl (eqb (old.name g.id) name) refl
      where
        by_test : (b : Bool) → eqb g.id h.id ≡ b → (c : Bool) → eqb (old.name g.id) name ≡ c → c ≡ b
        by_test true is c says = sym says ∙ eq-eqb (old.name g.id) name (ap old.name (eqb-true g.id h.id is) ∙ h.named)
        by_test false is true says =
            let one : g.id ≡ h.id =
            good.names g.id h.id (listed_is_live old.state g at) h.live (eqb-true (old.name g.id) name says ∙ sym h.named) in
            let no : true ≡ false = sym (eq-eqb g.id h.id one) ∙ is in
            absurd (false≢true (sym no))
        by_test false is false says = refl

    was : IsFreeingStep old.state h.id new.state → (g : Grant) → Contains (live_in new.state) g → IsLive old.state g.id
    was step g at =
        let some : 1 ≤ live_count g.id new.state = live_counted new.state g.id (listed_is_live new.state g at) in
        let less = freeing_less old.state new.state h.id step g.id in
        counted_live old.state g.id (omega (arith, some, less))

moved_book : (old new : Named) (asked : AtlasCall) (list : ListValue) → IsNamed old → RearrangesUnder old asked list new
    → AreSameGrants (moved_boxes list) (named_boxes new)
moved_book old new asked list good h p =
    let step = rearrangings_lose_nothing old.state new.state asked h.answer good.sound h.step in
    let f : Grant → Grant = renamed_grant new.name in
    let after = count_by-permutation (λ g. p (f g)) (live_in new.state) (map (λ t. t.new) h.answer.changes) step.after in
    let mapped = count_map (λ (t : Transfer). t.new) (λ g. p (f g)) h.answer.changes in
    let all = count_map f p (live_in new.state) in
    let names = count_alike (λ (t : Transfer). p (f t.new)) (λ (t : Transfer). p (renamed_transfer old.name t).new) h.answer.changes
    (λ t at. ap (λ n. p (grant n t.new.box)) (All-contains (λ (t : Transfer). new.name t.new.id ≡ old.name t.old.id) h.answer.changes t
    h.kept at)) in
    let a = count_map (λ (c : Change). grant_of c.new) p list.changes in
    let b = count_map transfer_of (λ (t : Transfer). p t.new) list.changes in
    let c = ap (count_by (λ (t : Transfer). p t.new)) h.changes in
    let d = count_map (renamed_transfer old.name) (λ (t : Transfer). p t.new) h.answer.changes in
    a ∙ sym b ∙ c ∙ d ∙ sym names ∙ sym mapped ∙ after ∙ sym all

-- One event keeps the book true.
step_booked : (held : List Grant) (old new : Named) (event : EventValue) → IsNamed old
    → AreSameGrants held (named_boxes old)
    → Leads old event new → AreSameGrants (booked held event) (named_boxes new)
step_booked held old new (Allocate size None) good same (step, kept) p = same p ∙
    sym (ap (count_by p) (still old new (ap live_in step.1) kept))
step_booked held old new (Allocate size (Some a)) good same h p = granted_book held old new size a good same h p
step_booked held old new (Deallocate name) good same h p = freed_book held old new name good same h p
step_booked held old new (Grow size) good same (step, kept) p =
    same p ∙ sym (ap (count_by p) (still old new (growths_keep_boxes old.state new.state (sides_of size) good.sound step).live kept))
step_booked held old new (Rearrange list) good same h p = moved_book old new atlas.Rearrange list good h p
step_booked held old new (ResizeAndRearrange size list) good same h p =
    moved_book old new (atlas.ResizeAndRearrange (sides_of size)) list good h p

lead_booked : (events : List EventValue) (held : List Grant) (old new : Named) → IsNamed old
    → AreSameGrants held (named_boxes old)
    → LeadOn old events new → AreSameGrants (book_from held events) (named_boxes new)
lead_booked [] held old new good same h p = same p ∙ ap (λ s. count_by p (named_boxes s)) (sym h)
lead_booked (event ∷ events) held old new good same (mid, first, rest) p =
    lead_booked events (booked held event) mid new (events_keep_names old mid event good first)
    (step_booked held old mid event good same first) rest p

lead_named : (events : List EventValue) (old new : Named) → IsNamed old → LeadOn old events new → IsNamed new
lead_named [] old new good h = subst IsNamed (sym h) good
lead_named (event ∷ events) old new good (mid, first, rest) =
    lead_named events mid new (events_keep_names old mid event good first) rest

-- A new atlas has no live name.
fresh_named : (size : Sides) (options : Options) (name : ℕ → ℕ) → IsPositive size → AreValid options
    → IsNamed (fresh_session size options name)
fresh_named size options name nonempty valid = record {
  sound = starts_are_sound size options 16777216 nonempty valid (omega arith);
  limit = refl;
  names = λ a b at _ _. absurd (Contains-none a at);
}

pub sessions_are_named : SessionsAreNamed
sessions_are_named size options events last h =
    lead_named events (fresh_session size options h.name) last (fresh_named size options h.name h.nonempty h.valid) h.leads

pub books_are_true : BooksAreTrue
books_are_true size options events last h =
    lead_booked events [] (fresh_session size options h.name) last (fresh_named size options h.name h.nonempty h.valid) (λ p. refl) h.leads
