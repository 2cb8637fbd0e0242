-- What each step does, call by call.
use Rattle.std.proofs.Common.{rules, ◌≡◌, ℕ, ◌+◌, ◌-◌, ◌*◌, ◌/◌, ◌≤◌, ◌<◌, true, ◌∷◌, map, refl, ap, subst, subst₂, sym}
use Rattle.std.proofs.Common.{◌∙◌, arith, inl, inr, Contains, IsPermutation}
use Rattle.std.proofs.lemmas.Bool.{false≢true, eq-eqb}
use Rattle.std.proofs.lemmas.List.{append-nil}
use Rattle.std.proofs.lemmas.List.Elements.{All-contains}
use Rattle.std.proofs.lemmas.List.Sorted.{IsPermutation-sym, IsPermutation-trans}
use Rattle.std.specs.List.{count_by}
use Rattle.atlas_model.specs.Boxes.{Sides, Box, box_at, box_sides, covers, IsInside, Fits, IsPositive, IsNonempty}
use Rattle.atlas_model.specs.Boxes.{IsWithin}
use Rattle.atlas_model.specs.Changes.{only}
use Rattle.atlas_model.specs.Choice.{rounded, ComesFirst}
use Rattle.atlas_model.specs.Laws.StepLaws.{live_count, IsBarelyAbove, IsGrantStep, IsFreeingStep, IsGrowthStep}
use Rattle.atlas_model.specs.Laws.StepLaws.{IsRearrangingStep, Does, GrantsLieInside, FreeingsRemoveOne}
use Rattle.atlas_model.specs.Laws.StepLaws.{GrowthsKeepBoxes, RearrangingsLoseNothing, is_refusal}
use Rattle.atlas_model.specs.Laws.StepLaws.{RefusalsChangeNothing, PicksAreOne}
use Rattle.atlas_model.specs.Refits.{Rearrangement}
use Rattle.atlas_model.specs.States.{State, live_in, free_in, IsLive, IsAligned, IsSound, after_freeing, after_growth}
use Rattle.atlas_model.specs.Steps.{AtlasCall, AtlasReply, Step, Grants, Rearranges}
use Rattle.atlas_model.specs.Steps.AtlasCall.{Allocate, Deallocate, Grow}
use Rattle.atlas_model.specs.Steps.AtlasReply.{Allocated, Done, Changed}
use Rattle.atlas_model.specs.Trees.{Grant, grant, live, ids, slot_count}
use Rattle.atlas_model.proofs.ListLemmas.ListCounts.{count_some, counted_once}
use Rattle.atlas_model.proofs.TreeLemmas.BoxLists.{count_live, live_few, free_in_place, free_once}
use Rattle.atlas_model.proofs.ChoiceLemmas.RoundedSides.{up_least, up_below, rounded_positive, rounded_aligned, rounded_same}
use Rattle.atlas_model.proofs.StepLemmas.RefittedTrees.{sides_at, place_permuted, IsMovable}
use Rattle.atlas_model.proofs.StepLemmas.Outcomes.{by_outcome}
use Rattle.atlas_model.proofs.StepLemmas.SoundSteps.{live_movable, step_refitted}
use Rattle.atlas_model.proofs.TreeLemmas.TreePlacements.{request_inside}
use Rattle.atlas_model.proofs.TreeLemmas.TreeRoom.{freed_has_room, grown_room}
use Rattle.atlas_model.proofs.TreeLemmas.TreeLive.{live_release, live_grown}

-- A grant.

barely_above : (n a : ℕ) (m : ℕ) → 0 < a → m ≡ (n + (a - 1)) / a * a → IsBarelyAbove n a m
barely_above n a m pos is = subst (IsBarelyAbove n a) (sym is) (up_least n a pos, up_below n a pos)

pub grant_step : (old new : State) (r : Sides) (f : Box) (g : Grant) → IsSound old → Grants old r f g new
    → IsGrantStep old r g new
grant_step old new r f g sound h =
    let fitting = h.takes.pick.best.candidate.fitting in
    let pos : IsPositive (rounded old.options r) = rounded_positive old.options r sound.valid h.takes.positive in
    let its_sides : box_sides g.box ≡ rounded old.options r = ap box_sides h.box ∙ sides_at f.min (rounded old.options r) in
    let its_grant : grant g.id (box_at f.min (rounded old.options r)) ≡ g = λ i. record { id = g.id; box = sym h.box i } in
    let few : live_count g.id old ≤ slot_count g.id (ids old.tree.members) = live_few g.id old.size old.tree in
    record {
      inside = (
        f,
        fitting.is_free,
        subst (λ b. IsInside b f) (sym h.box)
            (request_inside f (rounded old.options r) pos fitting.fits),
      );
      aligned = subst (IsAligned old.options) (sym its_sides) (rounded_aligned old.options r);
      width = barely_above r.width old.options.alignment.width _ sound.valid.0.0 (ap (λ s. s.width) its_sides);
      height = barely_above r.height old.options.alignment.height _ sound.valid.0.1 (ap (λ s. s.height) its_sides);
      id = omega (arith, few, h.unused);
      live = subst₂ (λ k s. IsPermutation (k ∷ live_in old) (live_in s)) its_grant (sym h.state)
          (place_permuted old.size old.tree f (rounded old.options r) g.id sound.well_formed fitting.is_free pos fitting.fits);
    }

-- A freeing.

only_itself : (id k : ℕ) → k ≡ id → only id k ≡ true
only_itself id k e = eq-eqb k id e

live_one : (s : State) (id : ℕ) → IsSound s → IsLive s id → live_count id s ≡ 1
live_one s id sound at =
    let same : live_count id s ≡ count_by (only id) (ids s.tree.members) = count_live (only id) s.size s.tree in
    let some : 1 ≤ count_by (only id) (ids s.tree.members) =
    count_some (only id) (ids s.tree.members) id at (only_itself id id refl) in
    let few : live_count id s ≤ slot_count id (ids s.tree.members) = live_few id s.size s.tree in
    let one : slot_count id (ids s.tree.members) ≤ 1 = sound.well_formed.apart id in
    omega arith

pub freeing_step : (old : State) (id : ℕ) → IsSound old → IsLive old id
    → IsFreeingStep old id (after_freeing old (only id))
freeing_step old id sound at = record {
  one = live_one old id sound at;
  live = live_release old.size (only id) old.tree;
  free = λ g is_live is. let room = freed_has_room old.size old.tree (only id) g sound.well_formed is_live
      (only_itself id g.id is) in (room.0, room.1, room.2);
  room = λ g is_live is.
      let room = freed_has_room old.size old.tree (only id) g sound.well_formed is_live (only_itself id g.id is) in
      let its : IsMovable old.options g = All-contains (IsMovable old.options) (live_in old) g (live_movable old sound) is_live in
      record {
        positive = its.0;
        box = room.0;
        fitting = record {
          is_free = room.1;
          fits = subst (λ s. Fits s (box_sides room.0))
              (sym (rounded_same old.options (box_sides g.box) sound.valid its.1)) room.3;
        };
      };
}

-- A growth.

pub growth_step : (old : State) (n : Sides) → IsSound old → Fits old.size n → IsGrowthStep old (after_growth old n)
growth_step old n sound fit = search (rules, live_grown, grown_room)

-- A rearranging.

pub rearranging_step : (old new : State) (n : Sides) (list : Rearrangement) → IsSound old
    → Rearranges old n (Changed list) new → IsRearrangingStep old list new
rearranging_step old new n list sound h =
    let all = step_refitted old new n list sound h in
    subst (IsRearrangingStep old list) (sym h.5)
    (record {
      before = IsPermutation-trans _ _ _ h.3.permuted all.before;
      after = IsPermutation-sym _ _ (subst (λ l. IsPermutation l (live n h.2))
          (append-nil (map (λ c. c.new) list.changes)) all.after);
      sides = all.sides;
    })

-- Each step.

unchanged_does : (old new : State) (call : AtlasCall) (reply : AtlasReply) → is_refusal reply ≡ true → new ≡ old
    → Does old call reply new
unchanged_does old new call (Allocated g) refused same = absurd (false≢true refused)
unchanged_does old new call Done refused same = absurd (false≢true refused)
unchanged_does old new call (Changed list) refused same = absurd (false≢true refused)
unchanged_does old new call reply refused same = same

pub steps_do : (old new : State) (call : AtlasCall) (reply : AtlasReply) → IsSound old → Step old call reply new
    → Does old call reply new
steps_do old new call reply sound =
    by_outcome old new (λ call reply. Does old call reply new)
    (λ call reply refused same. unchanged_does old new call reply refused same)
    (λ r f g h. grant_step old new r f g sound h)
    (λ id at is. subst (IsFreeingStep old id) (sym is) (freeing_step old id sound at))
    (λ n fit room is. subst (IsGrowthStep old) (sym is) (growth_step old n sound fit))
    (λ is. ap live_in is)
    (λ n o pos valid is. ap live_in is)
    (λ call n list rare h. rearranging_step old new n list sound h)
    call reply

pub refusals_change_nothing : RefusalsChangeNothing
refusals_change_nothing old new call reply = grind arith

pub grants_lie_inside : GrantsLieInside
grants_lie_inside old new r g sound h = steps_do old new (Allocate r) (Allocated g) sound h

pub freeings_remove_one : FreeingsRemoveOne
freeings_remove_one old new id sound h = steps_do old new (Deallocate id) Done sound h

pub growths_keep_boxes : GrowthsKeepBoxes
growths_keep_boxes old new n sound h = steps_do old new (Grow n) Done sound h

pub rearrangings_lose_nothing : RearrangingsLoseNothing
rearrangings_lose_nothing old new call list sound h = steps_do old new call (Changed list) sound h

-- Picks

same_place : (f g : Box) → ComesFirst f g → ComesFirst g f → (f.min.x ≡ g.min.x) × (f.min.y ≡ g.min.y)
same_place f g (inl a) (inl b) = absurd (omega arith)
same_place f g (inl a) (inr b) = absurd (omega (arith, b.0))
same_place f g (inr a) (inl b) = absurd (omega (arith, a.0))
same_place f g (inr a) (inr b) = (omega (arith, a.1, b.1), a.0)

covers_corner : (b : Box) (x y : ℕ) → IsNonempty b → x ≡ b.min.x → y ≡ b.min.y → covers x y b ≡ true
covers_corner b x y h p q = grind arith

pub picks_are_one : PicksAreOne
picks_are_one s r f g sound pf pg =
    let in_place = free_in_place s.size s.tree sound.well_formed in
    let at_f : Contains (free_in s) f = pf.best.candidate.fitting.is_free in
    let at_g : Contains (free_in s) g = pg.best.candidate.fitting.is_free in
    let f_in : IsNonempty f × IsWithin s.size f =
    All-contains (λ b. IsNonempty b × IsWithin s.size b) (free_in s) f in_place at_f in
    let g_in : IsNonempty g × IsWithin s.size g =
    All-contains (λ b. IsNonempty b × IsWithin s.size b) (free_in s) g in_place at_g in
    let place : (f.min.x ≡ g.min.x) × (f.min.y ≡ g.min.y) = same_place f g (pf.first g pg.best) (pg.first f pf.best) in
    counted_once (covers f.min.x f.min.y) (free_in s) f g
    (free_once s.size s.tree sound.well_formed f.min.x f.min.y (omega (arith, f_in.0.0, f_in.1.0))
    (omega (arith, f_in.0.1, f_in.1.1)))
    at_f at_g (covers_corner f f.min.x f.min.y f_in.0 refl refl) (covers_corner g f.min.x f.min.y g_in.0 place.0 place.1)
