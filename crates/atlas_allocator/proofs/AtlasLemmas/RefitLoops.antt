-- The loop that places allocations anew.
use Rattle.std.proofs.Common.{◌≡◌, ℕ, suc, ◌+◌, ◌<◌, ◌≤◌, List, [], ◌∷◌, ◌++◌, map, length, get_or, take, drop, All}
use Rattle.std.proofs.Common.{Option, Some, None, Result, Ok, ap, sym, subst, ◌∙◌, add-one, arith}
use Rattle.std.proofs.Math.Seq.{take-suc-set, drop-cons}
use Rattle.std.proofs.lemmas.List.{append-nil, drop-set-lt, drop_all, length-set, map_push}
use Rattle.std.proofs.lemmas.List.Elements.{All-push}
use Rattle.std.specs.Prelude.{IfErr}
use Rattle.atlas_model.specs.Boxes.{Sides, box_sides}
use Rattle.atlas_model.specs.Pixels.{box_of}
use Rattle.atlas_model.specs.Rearranging.{IsExactChange}
use Rattle.atlas_model.specs.Refits.Refitted.{HasExactRectangle, IsRefitOf, IsRefitRefusal, IsPartOfRefit, IsRefitting}
use Rattle.atlas_model.specs.Refits.Refitted.{followed_by, moved_so_far}
use Rattle.atlas_model.specs.Replies.{grant_of, allocate_reply, IsExact}
use Rattle.atlas_model.specs.States.{State}
use Rattle.atlas_model.specs.Steps.{Step}
use Rattle.atlas_model.specs.Steps.AtlasCall.{Allocate}
use Rattle.atlas_model.specs.declared.allocation.Allocation.{Allocation}
use Rattle.atlas_model.specs.declared.change.Change.{Change}
use Rattle.atlas_model.specs.declared.error.AtlasError.{AtlasError}
use Rattle.std.proofs.Common.{Err}
use Rattle.std.specs.Prelude.{IfSome}
use Rattle.std.proofs.Math.ListN.{set}
use Rattle.atlas_allocator.proofs.AtlasLemmas.RefitParts.{one_change, one_failure, part-end, part-change, part-failure, part-refusal}

abbrev change : (old new : Allocation) → Change
change old new = record { old = old; new = new }

-- Nothing is placed yet.
pub refitting-start : (old : State) (order : List Allocation) (changes : List Change) → changes ≡ []
    → IsRefitting old order old 0 0 changes order
refitting-start old order changes none = grind arith

-- The same of equal variables.
pub refitting-same : (old : State) (order : List Allocation) (now : State) (at failed failed' : ℕ)
    (changes changes' : List Change)
    (boxes boxes' : List Allocation) → failed' ≡ failed → changes' ≡ changes → boxes' ≡ boxes
    → IsRefitting old order now at failed changes boxes → IsRefitting old order now at failed' changes' boxes'
refitting-same old order now at failed failed' changes changes' boxes boxes' f c b h = grind arith

change-moved : (changes : List Change) (failures : List Allocation) (old new : Allocation)
    → followed_by (moved_so_far changes failures) (one_change (grant_of old) (grant_of new))
    ≡ moved_so_far (changes ++ change old new ∷ []) failures
change-moved changes failures old new = grind (arith, map_push, append-nil)

failure-moved : (changes : List Change) (failures : List Allocation) (x : Allocation)
    → followed_by (moved_so_far changes failures) (one_failure (grant_of x)) ≡ moved_so_far changes (failures ++ x ∷ [])
failure-moved changes failures x = grind (arith, append-nil, map_push)

module _ (old : State) (order : List Allocation) (now : State) (at failed : ℕ) (changes : List Change)
    (boxes : List Allocation) (i : IsRefitting old order now at failed changes boxes) where
  -- All are placed.
  pub refitting-end : length order ≤ at → (failures : List Allocation) → failures ≡ take failed boxes
      → IsRefitOf old (map grant_of order) (moved_so_far changes failures) now
  refitting-end over failures is = grind (arith, drop_all, part-end)

  module _ (below : at < length boxes) (x : Allocation) (here : x ≡ get_or boxes at x) where
    same_here : get_or order at x ∷ drop (suc at) order ≡ x ∷ drop (suc at) boxes
    same_here =
        sym (drop-cons order at x (omega (arith, i.length))) ∙ sym i.left ∙ drop-cons boxes at x below
        ∙ ap (λ y. y ∷ drop (suc at) boxes) (sym here)

    order_here : get_or order at x ≡ x
    order_here = cc same_here

    left_here : drop (at + 1) boxes ≡ drop (at + 1) order
    left_here = rw (add-one at) (cc same_here)

    pub refitting-exact : All HasExactRectangle order → IsExact x.rectangle
    refitting-exact all = subst HasExactRectangle order_here (all at x (omega (arith, i.length)))

    left_first : map grant_of (drop at order) ≡ grant_of x ∷ map grant_of (drop (at + 1) order)
    left_first =
        ap (map grant_of) (sym i.left ∙ drop-cons boxes at x below ∙ ap (λ y. y ∷ drop (suc at) boxes) (sym here)
        ∙ ap (λ n. x ∷ drop n boxes) (sym (add-one at)) ∙ ap (λ l. x ∷ l) left_here)

    part_here : IsPartOfRefit old
        (map grant_of order) (moved_so_far changes (take failed boxes)) now (grant_of x ∷ map grant_of (drop (at + 1) order))
    part_here = subst (IsPartOfRefit old (map grant_of order) (moved_so_far changes (take failed boxes)) now) left_first i.part

    module _ (sides : Sides) (measured : sides ≡ box_sides (box_of x.rectangle)) (new : State) where
      -- The next one is placed.
      pub refitting-change : (y : Allocation) (reply : Option Allocation) → reply ≡ Some y
          → Step now (Allocate sides) (allocate_reply (Ok reply)) new → IfSome reply HasExactRectangle
          → IsExact x.rectangle → IsRefitting old order new (at + 1) failed (changes ++ change x y ∷ []) boxes
      refitting-change y reply is step exact exact_x =
          let s = subst (λ r. Step now (Allocate sides) (allocate_reply (Ok r)) new) is step in
          let t = subst (λ r. Step now (Allocate r) (allocate_reply (Ok (Some y))) new) measured s in
          let exact_y = subst (λ r. IfSome r HasExactRectangle) is exact in
          record {
            few = omega (arith, i.few);
            length = i.length;
            left = left_here;
            part = subst (λ l. IsPartOfRefit old (map grant_of order) l new (map grant_of (drop (at + 1) order)))
                (change-moved changes (take failed boxes) x y)
                (part-change old now new (map grant_of order) (moved_so_far changes (take failed boxes)) (grant_of x)
                (map grant_of (drop (at + 1) order)) part_here (grant_of y) t);
            changes_exact = All-push IsExactChange changes (change x y) i.changes_exact (exact_x, exact_y);
            failures_exact = i.failures_exact;
          }

      -- The next one has no room.
      pub refitting-failure : (reply : Option Allocation) → reply ≡ None
          → Step now (Allocate sides) (allocate_reply (Ok reply)) new
          → IsExact x.rectangle → IsRefitting old order new (at + 1) (failed + 1) changes (set boxes failed x)
      refitting-failure reply is step exact_x =
          let s = subst (λ r. Step now (Allocate sides) (allocate_reply (Ok r)) new) is step in
          let t = subst (λ r. Step now (Allocate r) (allocate_reply (Ok None)) new) measured s in
          let front : take (failed + 1) (set boxes failed x) ≡ take failed boxes ++ x ∷ [] =
          ap (λ n. take n (set boxes failed x)) (add-one failed) ∙ take-suc-set boxes failed x (omega (arith, i.few)) in
          record {
            few = omega (arith, i.few);
            length = length-set boxes failed x ∙ i.length;
            left = drop-set-lt (at + 1) boxes failed x (omega (arith, i.few)) ∙ left_here;
            part = subst (λ l. IsPartOfRefit old (map grant_of order) (moved_so_far changes l) new (map grant_of (drop (at + 1) order)))
                (sym front)
                (subst (λ l. IsPartOfRefit old (map grant_of order) l new (map grant_of (drop (at + 1) order)))
                (failure-moved changes (take failed boxes) x)
                (part-failure old now new (map grant_of order) (moved_so_far changes (take failed boxes)) (grant_of x)
                (map grant_of (drop (at + 1) order)) part_here t));
            changes_exact = i.changes_exact;
            failures_exact = subst (All HasExactRectangle) (sym front)
                (All-push HasExactRectangle (take failed boxes) x i.failures_exact exact_x);
          }

      -- The next one is refused.
      pub refitting-refusal : {T : Type 0} (error : AtlasError)
          → Step now (Allocate sides) (allocate_reply (Err error)) new
          → (result : Result T AtlasError) → result ≡ Err error → IfErr result (IsRefitRefusal old (map grant_of order))
      refitting-refusal error step result is = grind (arith, part-refusal, part_here)
