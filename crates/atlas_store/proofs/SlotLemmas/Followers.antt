-- How many members follow one another in a sequence.
use Rattle.std.proofs.Common.{ℕ, ◌+◌, ◌<◌, ◌≤◌, ◌≡◌, ◌==◌, List, refl, if◌then◌else◌, arith, zero, suc, length}
use Rattle.std.proofs.lemmas.Bool.{ne_eqb}
use Rattle.atlas_store.specs.declared.slots.Node.{Node}
use Rattle.atlas_store.specs.Slots.{node_at}
use Rattle.atlas_search.specs.Numbers.{no_slot}
use Rattle.atlas_store.specs.Slots.Numbered.{Numbered, tally, first_slot, numbers, End, Free, Alloc, Seq}
use Rattle.atlas_store.specs.Slots.Standing.{Sequence, Standing, Stands}
use Rattle.atlas_store.proofs.SlotLemmas.JoinWrites.{used-inside}
use Rattle.atlas_store.proofs.SlotLemmas.ReadTrees.{numbers-few}
use Rattle.atlas_store.proofs.SlotLemmas.Frames.{ne-from_same}

-- The members of a sequence, without those inside them.
abbrev pub outermost : Numbered → ℕ
outermost End = 0
outermost (Free i e rest) = 1 + outermost rest
outermost (Alloc i g e rest) = 1 + outermost rest
outermost (Seq i e inner rest) = 1 + outermost rest

-- The slots that follow one another from slot i on, as far as a bound.
abbrev pub followers : (bound : ℕ) → List Node → (i : ℕ) → ℕ
followers zero ns i = 0
followers (suc bound) ns i = if i == no_slot then 0 else 1 + followers bound ns (node_at ns i).next.number

pub followers-outermost : (bound : ℕ) (ns : List Node) (s : Sequence) (b q : ℕ) (n : Numbered) → Standing ns s b q n
    → tally no_slot n ≡ 0 → outermost n ≤ bound → followers bound ns (first_slot n) ≡ outermost n
followers-outermost zero ns s b q End h none l = refl
followers-outermost zero ns s b q n h none l = absurd (omega arith)
followers-outermost (suc bound) ns s b q End h none l = refl
followers-outermost (suc bound) ns s b q (Free i e rest) h none l =
    rw (ne_eqb i no_slot (ne-from_same no_slot i (omega arith)), h.0.next)
    (omega (arith, followers-outermost bound ns s i (q + e) rest h.2 (omega arith) (omega arith)))
followers-outermost (suc bound) ns s b q (Alloc i g e rest) h none l =
    rw (ne_eqb i no_slot (ne-from_same no_slot i (omega arith)), h.0.next)
    (omega (arith, followers-outermost bound ns s i (q + e) rest h.3 (omega arith) (omega arith)))
followers-outermost (suc bound) ns s b q (Seq i e inner rest) h none l =
    rw (ne_eqb i no_slot (ne-from_same no_slot i (omega arith)), h.0.next)
    (omega (arith, followers-outermost bound ns s i (q + e) rest h.3 (omega arith) (omega arith)))

pub outermost-numbers : (n : Numbered) → outermost n ≤ numbers n
outermost-numbers End = omega arith
outermost-numbers (Free i e rest) = omega (arith, outermost-numbers rest)
outermost-numbers (Alloc i g e rest) = omega (arith, outermost-numbers rest)
outermost-numbers (Seq i e inner rest) = omega (arith, outermost-numbers rest)

-- There are no more members than slots.
pub outermost-few : (ns : List Node) (s : Sequence) (n : Numbered) → Stands ns s n → outermost n ≤ length ns
outermost-few ns s n h = omega (arith, outermost-numbers n, numbers-few ns s n h)

-- Where there is a member, a slot begins it.
pub begins-inside : (ns : List Node) (s : Sequence) (b q : ℕ) (n : Numbered) → Standing ns s b q n
    → (first_slot n ≡ no_slot → ⊥) → first_slot n < length ns
begins-inside ns s b q End h ne = absurd (ne refl)
begins-inside ns s b q n h ne = used-inside ns _ (rw h.0.kind (omega arith))
