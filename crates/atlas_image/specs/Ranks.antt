-- The first members that are noted, and ranks that are given breadth first. No public clause cites this module.
use Rattle.std.specs.Prelude.{ℕ, ◌+◌, ◌<◌, ◌≤◌, ◌≡◌, ◌≢◌, ◌⊎◌, ◌==◌, if◌then◌else◌, List, [], ◌∷◌, ◌++◌, length, map}
use Rattle.std.specs.Prelude.{slice_index, slice_set, slice_index_or, sum_by}
use Rattle.atlas_image.specs.declared.order.Order.{Order}
use Rattle.atlas_image.specs.Members.{IsFirstOf, IsUsed, first_in, no_first}
use Rattle.atlas_search.specs.declared.link.Link.{Link}
use Rattle.atlas_search.specs.Numbers.{no_slot}
use Rattle.atlas_store.specs.declared.slots.Node.{Node}
use Rattle.atlas_store.specs.declared.slots.NodeKind.TheVariants as kind
use Rattle.atlas_store.specs.Slots.{node_at}

-- What may hold a sequence: a slot, or none.
abbrev pub MayHold : List Node → ℕ → Type 0
MayHold ns p = (p ≡ no_slot) ⊎ (p < length ns)

-- Of the first m slots each that comes first somewhere has its like noted there.
abbrev pub AreNoted : {A : Type 0} → List Node → Order A → (m : ℕ) → Type 0
AreNoted ns o m =
    (k : ℕ) → k < m → IsUsed (node_at ns k) → (node_at ns k).previous.number ≡ no_slot
    → MayHold ns (node_at ns k).parent.number
    → IsFirstOf (node_at ns (first_in o (node_at ns k).parent.number).number) (node_at ns k).parent.number

abbrev pub blank_rank : ℕ
blank_rank = 4294967295

pub record HasRank (rs : List ℕ) (x : ℕ) : Type 0 where
  pub inside : x < length rs
  pub some : slice_index rs x ≢ blank_rank

abbrev pub lacks : ℕ → ℕ
lacks r = if r == blank_rank then 1 else 0

-- How many slots have no rank.
abbrev pub unranked : List ℕ → ℕ
unranked rs = sum_by lacks rs

-- Slot a leads to slot x, which comes after it, or first inside it.
abbrev pub LeadsToSlot : List Node → (d : ℕ → ℕ) → (a x : ℕ) → Type 0
LeadsToSlot ns d a x = ((node_at ns a).next.number ≡ x) ⊎ (((node_at ns a).kind ≡ kind.Container) × (d a ≡ x))

-- Of the queue q the first `led` were looked at, and the first `seen` may have led to others.
pub record IsRanking (leads : ℕ → ℕ → Type 0) (top : ℕ) (q rs : List ℕ) (led seen : ℕ) : Type 0 where
  pub origin : (x : ℕ) → HasRank rs x → (x ≡ top)
      ⊎ ((j : ℕ) × (j < seen) × (j < length q) × leads (slice_index q j) x × (slice_index rs x ≡ j + 1))
  pub queued : (j : ℕ) → j < length q → HasRank rs (slice_index q j)
  pub low : (j : ℕ) → j < length q → slice_index rs (slice_index q j) ≤ j
  pub found : (x : ℕ) → HasRank rs x → (j : ℕ) × (j < length q) × (slice_index q j ≡ x)
  pub done : (j x : ℕ) → j < led → j < length q → leads (slice_index q j) x → x < length rs → HasRank rs x
  pub few : length q + unranked rs ≡ length rs

-- The first member of the sequence of a slot, where these are noted.
abbrev pub firsts_of : Link → List Link → ℕ → ℕ
firsts_of top firsts i = (if i == no_slot then top else slice_index_or firsts i no_first).number

abbrev pub numbers_in : List Link → List ℕ
numbers_in q = map (λ l. l.number) q

abbrev pub LacksRank : List ℕ → ℕ → Type 0
LacksRank rs x = (x < length rs) × (slice_index rs x ≡ blank_rank)

abbrev pub AreBlank : List ℕ → Type 0
AreBlank rs = (x : ℕ) → x < length rs → slice_index rs x ≡ blank_rank

-- Slot x was given the rank r, and stands last in the queue.
pub record IsAdded (q q' rs rs' : List ℕ) (x r : ℕ) : Type 0 where
  pub lacked : LacksRank rs x
  pub queue : q' ≡ q ++ x ∷ []
  pub ranks : rs' ≡ slice_set rs x r

-- Slot x had a rank, or there is no such slot.
pub record IsSkipped (q q' rs rs' : List ℕ) (x : ℕ) : Type 0 where
  pub had : LacksRank rs x → ⊥
  pub queue : q' ≡ q
  pub ranks : rs' ≡ rs

abbrev pub IsEnqueued : (q q' rs rs' : List ℕ) → (x r : ℕ) → Type 0
IsEnqueued q q' rs rs' x r = IsAdded q q' rs rs' x r ⊎ IsSkipped q q' rs rs' x

-- Slot `at` is noted where it comes first.
pub record IsNoting {A : Type 0} (old new : Order A) (n : Node) (at : Link) : Type 0 where
  pub noted : IsUsed n → n.previous.number ≡ no_slot
      → (n.parent.number ≡ no_slot) ⊎ (n.parent.number < length old.firsts.items) → first_in new n.parent.number ≡ at
  pub kept : (i : ℕ) → (first_in new i ≡ first_in old i) ⊎ (IsFirstOf n i × (first_in new i ≡ at))
  pub long : length new.firsts.items ≡ length old.firsts.items
  pub ranks : new.ranks.items ≡ old.ranks.items

-- The first i places of the queue were looked at.
pub record IsWalkedTo (ns : List Node) (top : Link) (firsts q : List Link) (rs : List ℕ) (i : ℕ) : Type 0 where
  pub ranking : IsRanking (LeadsToSlot ns (firsts_of top firsts)) top.number (numbers_in q) rs i i
  pub begun : top.number < length rs → HasRank rs top.number
  pub long : length rs ≡ length ns

-- All of a queue was looked at that began with the first member.
pub record AreRanked (ns : List Node) (top : Link) (firsts : List Link) (rs : List ℕ) : Type 0 where
  pub queue : List ℕ
  pub seen : ℕ
  pub ranking : IsRanking (LeadsToSlot ns (firsts_of top firsts)) top.number queue rs seen seen
  pub all : length queue ≤ seen
  pub begun : top.number < length rs → HasRank rs top.number
  pub long : length rs ≡ length ns

-- What is found of nodes: first members, and ranks for all that is led to from the first one.
pub record IsOrderOfNodes {A : Type 0} (ns : List Node) (o : Order A) : Type 0 where
  pub noted : AreNoted ns o (length ns)
  pub ranked : AreRanked ns o.top o.firsts.items o.ranks.items
