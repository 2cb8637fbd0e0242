-- Each call has a step, each proper start is sound, and rounding is least.
use Rattle.std.proofs.Common.{◌≡◌, ℕ, zero, suc, ◌+◌, ◌%◌, ◌^◌, ◌<◌, ◌≤◌, ◌==◌, ◌⊎◌, inl, inr, false, List, [], ◌∷◌}
use Rattle.std.proofs.Common.{◌++◌, length, refl, ap, ap₂, subst, sym, ◌∙◌, arith}
use Rattle.std.proofs.lemmas.Bool.{cases_lt, cases_eq}
use Rattle.atlas_model.specs.Boxes.{Axis, Position, Sides, Box, Fits, IsPositive, other, moved, box_at, box_sides}
use Rattle.atlas_model.specs.Changes.{only, place, fresh}
use Rattle.atlas_model.specs.Choice.{Options, AreValid, HasRoom, HasNoRoom, IsPick, up, rounded}
use Rattle.atlas_model.specs.Laws.Existence.{RoundingIsLeast, StartsAreSound, StepsExist}
use Rattle.atlas_model.specs.Refits.{Rearrangement, Refits, RefitPasses, IsRefitOrder, refit_sides, refit_nodes}
use Rattle.atlas_model.specs.Refits.{no_changes, with_change, with_failure}
use Rattle.atlas_model.specs.Renaming.{is_out_of_memory}
use Rattle.atlas_model.specs.States.{State, IsSound, started, free_in, live_in, after_placing, after_freeing}
use Rattle.atlas_model.specs.States.{after_growth, after_refit}
use Rattle.atlas_model.specs.Steps.{AtlasCall, AtlasReply, Step, Rearranges, nodes_with, nodes_grown}
use Rattle.atlas_model.specs.Steps.AtlasCall.{Allocate, Deallocate, Grow, Clear, Reset, Rearrange, ResizeAndRearrange}
use Rattle.atlas_model.specs.Steps.AtlasReply.{Allocated, NoRoom, Done, Changed, Refused, BadCall}
use Rattle.atlas_model.specs.Trees.{Members, Tree, Grant, grant, ids, node_count, slot_count, free_boxes}
use Rattle.atlas_model.specs.Trees.Members.{End, Free, Alloc, Seq}
use Rattle.atlas_model.specs.declared.error.AtlasError.TheVariants.{Slots, NotLive}
use Rattle.std.specs.List.{Contains}
use Rattle.std.proofs.lemmas.List.{length-append}
use Rattle.atlas_model.proofs.ListLemmas.ListCounts.{count_by-cons}
use Rattle.atlas_model.proofs.ChoiceLemmas.PickExistence.{picks_exist, room_or_none}
use Rattle.atlas_model.proofs.StepLemmas.RefitOrders.{refit_order}
use Rattle.atlas_model.proofs.ChoiceLemmas.RoundedSides.{up_least, up_multiple}
use Rattle.atlas_model.proofs.TreeLemmas.TreeBasics.{one_if, free_among, free_among-seq}
use Rattle.atlas_model.proofs.TreeLemmas.TreeIds.{Contains-first, Contains-later, Contains-none, Contains-cons_cases}
use Rattle.atlas_model.proofs.ListLemmas.Sums.{sums, sums-add}

-- Rounding

smallest_multiple : (n step m : ℕ) → 0 < step → m % step ≡ 0 → n ≤ m → up n step ≤ m
smallest_multiple n step m pos whole below = grind arith

pub rounding_is_least : RoundingIsLeast
rounding_is_least = record { enough = up_least; multiple = λ n step pos. up_multiple n step; least = smallest_multiple }

-- Starts

pub starts_are_sound : StartsAreSound
starts_are_sound size o limit pos valid some = grind arith

-- An id of an unused slot.

sums-same : (f g : ℕ → ℕ) (n : ℕ) → ((i : ℕ) → i < n → f i ≡ g i) → sums f n ≡ sums g n
unfolding sums
sums-same f g zero same = refl
sums-same f g (suc n) same = ap₂ (λ j k. j + k) (same n (omega arith)) (sums-same f g n (λ i below. same i (omega arith)))

sums-zero : (n : ℕ) → sums (λ i. 0) n ≡ 0
unfolding sums
sums-zero zero = refl
sums-zero (suc n) = omega (arith, sums-zero n)

-- A number is counted once among those below n, and not at all if it isn't below n.
sums-one : (y n : ℕ) → (sums (λ i. one_if (y == i)) n ≤ 1) × (n ≤ y → sums (λ i. one_if (y == i)) n ≡ 0)
unfolding sums
sums-one y zero = (omega arith, λ h. refl)
sums-one y (suc n) = grind (arith, sums-one y n)

-- Some count is 0, or their sum is as large as there are counts.
zero_or_many : (f : ℕ → ℕ) (n : ℕ) → ((i : ℕ) × (i < n) × (f i ≡ 0)) ⊎ (n ≤ sums f n)
unfolding sums
zero_or_many f zero = inr (omega arith)
zero_or_many f (suc n) = grind (arith, zero_or_many f n)

-- The slots below n together name no more than all ids.
slots_few : (xs : List ℕ) (n : ℕ) → n ≤ 2 ^ 24 → sums (λ i. slot_count i xs) n ≤ length xs
slots_few [] n low =
    subst (λ k. k ≤ 0) (sym (sums-zero n)) (omega arith)
slots_few (x ∷ xs) n low =
    let split : sums (λ i. slot_count i (x ∷ xs)) n
    ≡ sums (λ i. one_if (x % 2 ^ 24 == i) + slot_count i xs) n = sums-same _ _ n (λ i below. at i below) in
    let both : sums (λ i. one_if (x % 2 ^ 24 == i) + slot_count i xs) n
    ≡ sums (λ i. one_if (x % 2 ^ 24 == i)) n + sums (λ i. slot_count i xs) n = sums-add _ _ n in
    let rest : sums (λ i. slot_count i xs) n ≤ length xs = slots_few xs n low in
    let one : sums (λ i. one_if (x % 2 ^ 24 == i)) n ≤ 1 = (sums-one (x % 2 ^ 24) n).0 in
    omega arith
  where
    at : (i : ℕ) → i < n → slot_count i (x ∷ xs) ≡ one_if (x % 2 ^ 24 == i) + slot_count i xs
    at i below =
        let itself : i % 2 ^ 24 ≡ i = omega arith in
        count_by-cons (λ k. k % 2 ^ 24 == i % 2 ^ 24) x xs
        ∙ ap (λ j. one_if (x % 2 ^ 24 == j) + slot_count i xs) itself

-- Of fewer ids than slots some slot is unused.
unused_slot : (xs : List ℕ) → length xs < 2 ^ 24 → (id : ℕ) × (slot_count id xs ≡ 0)
unused_slot xs few =
    elim (zero_or_many (λ i. slot_count i xs) (2 ^ 24)) [
      | inl found ↦ (found.0, found.2)
      | inr many ↦ absurd (let sum : sums (λ i. slot_count i xs) (2 ^ 24) ≤ length xs = slots_few xs (2 ^ 24) (omega arith) in omega arith)
    ]

leaves_few : (axis : Axis) (o : Position) (across : ℕ) (m : Members)
    → length (ids m) + length (free_among axis o across m) ≤ node_count m
leaves_few axis o across End = omega arith
leaves_few axis o across (Free e rest) = grind (arith, leaves_few axis (moved axis o e) across rest)
leaves_few axis o across (Alloc id e rest) = grind (arith, leaves_few axis (moved axis o e) across rest)
leaves_few axis o across (Seq e inner rest) =
    let within : length (ids inner) + length (free_among (other axis) o e inner) ≤ node_count inner =
    leaves_few (other axis) o e inner in
    let after : length (ids rest) + length (free_among axis (moved axis o e) across rest) ≤ node_count rest =
    leaves_few axis (moved axis o e) across rest in
    let all_ids : length (ids inner ++ ids rest) ≡ length (ids inner) + length (ids rest) = length-append (ids inner) (ids rest) in
    let all_free : length (free_among axis o across (Seq e inner rest))
    ≡ length (free_among (other axis) o e inner) + length (free_among axis (moved axis o e) across rest) =
    ap length (free_among-seq axis o across e inner rest)
    ∙ length-append (free_among (other axis) o e inner) (free_among axis (moved axis o e) across rest) in
    omega arith

unused_id : (size : Sides) (t : Tree) (f : Box) → Contains (free_boxes size t) f → node_count t.members ≤ 16777216
    → (id : ℕ) × (slot_count id (ids t.members) ≡ 0)
unused_id size t f at low = grind (arith, leaves_few, unused_slot)

-- A refit, or one that passes the limit.
refit_or_passes : (size : Sides) (o : Options) (limit : ℕ) → limit ≤ 16777216 → (order : List Grant) (t : Tree)
    → ((list : Rearrangement) × (new : Tree) × Refits size o limit t order list new) ⊎ RefitPasses size o limit t order
refit_or_passes size o limit low [] t = inl (no_changes, t, (refl, refl))
refit_or_passes size o limit low (g ∷ gs) t =
    elim (room_or_none (free_boxes size t) o (box_sides g.box)) [
      | inl room ↦
          let pick = picks_exist (free_boxes size t) o (box_sides g.box) room in
          elim (cases_lt limit (refit_nodes size o t g pick.0)) [
            | inl many ↦ inr (inl (pick.0, pick.1, many))
            | inr few ↦
                let id = unused_id size t pick.0 pick.1.best.candidate.fitting.is_free (omega arith) in
                elim (refit_or_passes size o limit low gs (place size pick.0 (refit_sides o g) id.0 t)) [
                  | inl h ↦ inl (
                    with_change g (grant id.0 (box_at pick.0.min (refit_sides o g))) h.0,
                    h.1,
                    inl (pick.0, id.0, h.0, pick.1, id.1, few, refl, h.2),
                  )
                  | inr h ↦ inr (inr (inl (pick.0, id.0, pick.1, id.1, few, h)))
                ]
          ]
      | inr none ↦
          elim (refit_or_passes size o limit low gs t) [
            | inl h ↦ inl (with_failure g h.0, h.1, inr (h.0, none, refl, h.2))
            | inr h ↦ inr (inr (inr (none, h)))
          ]
    ]

-- Each call.

-- A reply that doesn't refuse for memory, and a state that it leads to.
abbrev HasStep : State → AtlasCall → Type 0
HasStep s call = (reply : AtlasReply) × (new : State) × (is_out_of_memory reply ≡ false) × Step s call reply new

live_or_not : (xs : List ℕ) (id : ℕ) → Contains xs id ⊎ (Contains xs id → ⊥)
live_or_not [] id = inr (λ at. Contains-none id at)
live_or_not (x ∷ xs) id =
    elim (cases_eq x id) [
      | inl same ↦ inl (subst (Contains (x ∷ xs)) same (Contains-first x xs))
      | inr unlike ↦
          elim (live_or_not xs id) [
            | inl at ↦ inl (Contains-later x xs id at)
            | inr none ↦
                inr (λ at. elim (Contains-cons_cases x xs id at) [
                  | inl same ↦ unlike same
                  | inr later ↦ none later
                ])
          ]
    ]

fits_or_not : (r s : Sides) → Fits r s ⊎ (Fits r s → ⊥)
fits_or_not r s = grind arith

positive_or_not : (s : Sides) → IsPositive s ⊎ (IsPositive s → ⊥)
positive_or_not s = grind arith

valid_or_not : (o : Options) → AreValid o ⊎ (AreValid o → ⊥)
valid_or_not o = grind arith

grant_step : (s : State) (r : Sides) → s.limit ≤ 16777216 → HasStep s (Allocate r)
grant_step s r low = by_room (room_or_none (free_in s) s.options r)
  where
    by_count : HasRoom (free_in s) s.options r → (f : Box) (pick : IsPick (free_in s) s.options (rounded s.options r) f)
        → (s.limit < nodes_with s r f) ⊎ (nodes_with s r f ≤ s.limit) → HasStep s (Allocate r)
    by_count room f pick (inl many) =
        (Refused Slots, s, refl, (f, record { positive = room.positive; pick = pick }, many, refl))
    by_count room f pick (inr few) =
        let id = unused_id s.size s.tree f pick.best.candidate.fitting.is_free (omega arith) in (
          Allocated (grant id.0 (box_at f.min (rounded s.options r))),
          after_placing s f (rounded s.options r) id.0,
          refl,
          (
            f,
            record {
              takes = record { positive = room.positive; pick = pick };
              room = few;
              unused = id.1;
              box = refl;
              state = refl;
            },
          ),
        )

    by_pick : HasRoom (free_in s) s.options r → (f : Box) × IsPick (free_in s) s.options (rounded s.options r) f
        → HasStep s (Allocate r)
    by_pick room taken = by_count room taken.0 taken.1 (cases_lt s.limit (nodes_with s r taken.0))

    by_room : HasRoom (free_in s) s.options r ⊎ HasNoRoom (free_in s) s.options r → HasStep s (Allocate r)
    by_room (inl room) = by_pick room (picks_exist (free_in s) s.options r room)
    by_room (inr none) = (NoRoom, s, refl, (none, refl))

freeing_step : (s : State) (id : ℕ) → HasStep s (Deallocate id)
freeing_step s id =
    elim (live_or_not (ids s.tree.members) id) [
      | inl at ↦ (Done, after_freeing s (only id), refl, (at, refl))
      | inr none ↦ (Refused NotLive, s, refl, (none, refl))
    ]

growth_step : (s : State) (n : Sides) → HasStep s (Grow n)
growth_step s n =
    elim (fits_or_not s.size n) [
      | inl fit ↦
          elim (cases_lt s.limit (nodes_grown s n)) [
            | inl many ↦ (Refused Slots, s, refl, (fit, many, refl))
            | inr few ↦ (Done, after_growth s n, refl, (fit, few, refl))
          ]
      | inr fails ↦ (BadCall, s, refl, (fails, refl))
    ]

reset_step : (s : State) (n : Sides) (o : Options) → HasStep s (Reset n o)
reset_step s n o = by_parts (positive_or_not n) (valid_or_not o)
  where
    by_parts : IsPositive n ⊎ (IsPositive n → ⊥) → AreValid o ⊎ (AreValid o → ⊥) → HasStep s (Reset n o)
    by_parts (inl pos) (inl valid) = (Done, started n o s.limit, refl, (pos, valid, refl))
    by_parts (inl pos) (inr fails) = (BadCall, s, refl, ((λ h. fails h.1), refl))
    by_parts (inr fails) h = (BadCall, s, refl, ((λ h. fails h.0), refl))

-- A rearranging into any size.
rearranging : (s : State) (n : Sides) → IsSound s → s.limit ≤ 16777216
    → (reply : AtlasReply) × (new : State) × (is_out_of_memory reply ≡ false) × Rearranges s n reply new
rearranging s n sound low = by_size (positive_or_not n) (refit_order s.size s.tree sound.well_formed)
  where
    by_refit : IsPositive n → (order : List Grant) → IsRefitOrder (live_in s) order
        → ((list : Rearrangement) × (t : Tree) × Refits n s.options s.limit (fresh n) order list t)
        ⊎ RefitPasses n s.options s.limit (fresh n) order
        → (reply : AtlasReply) × (new : State) × (is_out_of_memory reply ≡ false) × Rearranges s n reply new
    by_refit pos order is (inl h) = (Changed h.0, after_refit s n h.1, refl, (pos, order, h.1, is, h.2, refl))
    by_refit pos order is (inr h) = (Refused Slots, s, refl, (pos, order, is, h, refl))

    by_size : IsPositive n ⊎ (IsPositive n → ⊥) → (order : List Grant) × IsRefitOrder (live_in s) order
        → (reply : AtlasReply) × (new : State) × (is_out_of_memory reply ≡ false) × Rearranges s n reply new
    by_size (inl pos) ranked =
        by_refit pos ranked.0 ranked.1 (refit_or_passes n s.options s.limit low ranked.0 (fresh n))
    by_size (inr fails) ranked = (BadCall, s, refl, (fails, refl))

pub steps_exist : StepsExist
steps_exist s (Allocate r) sound low = grant_step s r low
steps_exist s (Deallocate id) sound low = freeing_step s id
steps_exist s (Grow n) sound low = growth_step s n
steps_exist s Clear sound low = (Done, started s.size s.options s.limit, refl, refl)
steps_exist s (Reset n o) sound low = reset_step s n o
steps_exist s Rearrange sound low = rearranging s s.size sound low
steps_exist s (ResizeAndRearrange n) sound low = rearranging s n sound low
