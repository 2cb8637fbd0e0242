-- The turns of a freeing, seen from the store.
use Rattle.std.proofs.Common.{ℕ, ◌+◌, ◌<◌, ◌≡◌, length, subst, refl, arith, true}
use Rattle.atlas_store.specs.declared.store.Store.{Store}
use Rattle.atlas_store.specs.declared.slots.NodeKind.TheVariants as kind
use Rattle.atlas_store.specs.Slots.Parts.{joined_node}
use Rattle.atlas_store.specs.Stored.{Shelf, Holding}
use Rattle.atlas_store.specs.Store.Holdings.{shelf_of, node_in, IsDetachedLeaf, KeepsRoom}
use Rattle.atlas_store.specs.Store.StoreCalls.{UnlistsLeaf, IsJoined}
use Rattle.atlas_store.specs.Store.Freeing.{IsSettlingAt, IsTurned, IsTurnTo, IsApartNext, IsApart, IsFreeable}
use Rattle.atlas_store.proofs.StoreLemmas.Turns.{IsJoinable, next-listed, previous-listed, joinable-next, joinable-previous}
use Rattle.atlas_store.proofs.StoreLemmas.Turns.{settling-joined, turned-same, apart-next_joined, apart-previous_joined, IsFreeing}
use Rattle.atlas_store.proofs.StoreLemmas.Turns.{freeing-turned, freeing-short, turned-none, turned-then, keeps-room}

-- Of the tree of h, leaves i and j can be joined, where `at` is at work.
pub record IsReady (v : Shelf) (i j at : ℕ) (h m : Holding) : Type 0 where
  pub joinable : IsJoinable v i j at m
  pub same_tree : m.tree ≡ h.tree
  pub same_sequence : m.sequence ≡ h.sequence

-- The next leaf, taken out of its list, can be joined to the one at work.
pub ready-next : {A : Type 0} (old mid : Store A) (at x : ℕ) (h : Holding) → UnlistsLeaf old mid x
    → IsSettlingAt (shelf_of old) at h → x ≡ (node_in (shelf_of old) at).next.number
    → (node_in (shelf_of old) x).kind ≡ kind.Free → (m : Holding) × IsReady (shelf_of mid) at x at h m
ready-next old mid at x h unlisted w e f =
    let k = unlisted.kept h w.leaf.holds (next-listed (shelf_of old) at x h w e f) in (
      _,
      record {
        joinable = joinable-next (shelf_of old) (shelf_of mid) at x h k.0 w e f unlisted.nodes k.1;
        same_tree = refl;
        same_sequence = refl;
      },
    )

-- So can the one at work to the previous one.
pub ready-previous : {A : Type 0} (old mid : Store A) (at x : ℕ) (h : Holding) → UnlistsLeaf old mid x
    → IsSettlingAt (shelf_of old) at h → x ≡ (node_in (shelf_of old) at).previous.number
    → (node_in (shelf_of old) x).kind ≡ kind.Free → (m : Holding) × IsReady (shelf_of mid) x at at h m
ready-previous old mid at x h unlisted w e f =
    let k = unlisted.kept h w.leaf.holds (previous-listed (shelf_of old) at x h w e f) in (
      _,
      record {
        joinable = joinable-previous (shelf_of old) (shelf_of mid) at x h k.0 w e f unlisted.nodes k.1;
        same_tree = refl;
        same_sequence = refl;
      },
    )

detached-leaf : (v : Shelf) (i j at : ℕ) (m : Holding) → IsJoinable v i j at m → IsDetachedLeaf v i m
detached-leaf v i j at m w = record { holds = w.holds; kind = w.free; detached = w.detached }

detached-next : (v : Shelf) (i j at : ℕ) (m : Holding) → IsJoinable v i j at m
    → m.detached (node_in v i).next.number ≡ true
detached-next v i j at m w = rw w.next w.next_detached

-- The join may be asked for.
pub askable : (v : Shelf) (i j at : ℕ) (h m : Holding) → IsReady v i j at h m
    → (m : Holding) × IsDetachedLeaf v i m × (m.detached (node_in v i).next.number ≡ true)
askable v i j at h m w = (m, detached-leaf v i j at m w.joinable, detached-next v i j at m w.joinable)

-- And what the leaf takes in is free.
pub next-free : (v : Shelf) (i j at : ℕ) (h m : Holding) → IsReady v i j at h m
    → (node_in v (node_in v i).next.number).kind ≡ kind.Free
next-free v i j at h m w = rw w.joinable.next w.joinable.next_free

module _ {A : Type 0} (mid new : Store A) (i j at : ℕ) (h m : Holding) (w : IsReady (shelf_of mid) i j at h m)
    (joined : IsJoined mid new i (node_in (shelf_of mid) i).next.number) where
  leaf : node_in (shelf_of new) i ≡ joined_node (node_in (shelf_of mid) i) (node_in (shelf_of mid) j)
  leaf =
      subst (λ x. node_in (shelf_of new) i ≡ joined_node (node_in (shelf_of mid) i) (node_in (shelf_of mid) x)) w.joinable.next joined.leaf

  -- A join is one turn.
  pub join-turned : (less : Holding) × IsSettlingAt (shelf_of new) i less × IsTurned 1 h less
  join-turned =
      let k = joined.kept m (detached-leaf (shelf_of mid) i j at m w.joinable) (detached-next (shelf_of mid) i j at m w.joinable) in
      let calm = joined.calm at w.joinable.calm (rw w.joinable.next w.joinable.which) in
      let r = settling-joined (shelf_of mid) (shelf_of new) i j at m w.joinable k joined.room.slots calm leaf in
      (r.0, r.1, turned-same 1 h m r.0 w.same_tree w.same_sequence r.2)

-- After the leaf at work took in the next one nothing is free.
pub join-apart_next : {A : Type 0} (mid new : Store A) (at x : ℕ) (h m : Holding) → IsReady (shelf_of mid) at x at h m
    → IsJoined mid new at (node_in (shelf_of mid) at).next.number → IsApartNext (shelf_of new) at
join-apart_next mid new at x h m w joined =
    apart-next_joined (shelf_of mid) (shelf_of new) at x m w.joinable (leaf mid new at x at h m w joined) joined.frees

-- Nor is anything beside the previous one, once that took in the leaf at work.
pub join-apart : {A : Type 0} (old mid new : Store A) (at x : ℕ) (h m : Holding) → UnlistsLeaf old mid x
    → IsReady (shelf_of mid) x at at h m → IsApartNext (shelf_of old) at
    → IsJoined mid new x (node_in (shelf_of mid) x).next.number → IsApart (shelf_of new) x
join-apart old mid new at x h m unlisted w apart joined =
    apart-previous_joined (shelf_of mid) (shelf_of new) x at m w.joinable (rw unlisted.nodes apart) (leaf mid new x at at h m w joined)
    joined.frees

-- n turns went from slot i to slot j, and m counts them on from k.
abbrev pub AreTurnsTo : {A : Type 0} → (a b : Store A) → (i j k m : ℕ) → Type 0
AreTurnsTo a b i j k m = (n : ℕ) × (m ≡ k + n) × IsTurnTo a b i j n

turn-none : {A : Type 0} (a : Store A) (at : ℕ) → IsTurnTo a a at at 0
turn-none a at = record { turned = λ h s. (h, s, turned-none h); counted = omega arith }

pub turns-none : {A : Type 0} (a b : Store A) (at k m : ℕ) → b ≡ a → m ≡ k → AreTurnsTo a b at at k m
turns-none a b at k m same e = rw same (0, omega (arith, e), turn-none a at)

-- Turns go on with turns.
pub turn-then : {A : Type 0} (a b e : Store A) (i j k n m : ℕ) → IsTurnTo a b i j n → IsTurnTo b e j k m
    → IsTurnTo a e i k (n + m)
turn-then a b e i j k n m x y = record {
  turned = λ h s.
      let p = x.turned h s in
      let q = y.turned p.0 p.1 in
      (q.0, q.1, turned-then n m h p.0 q.0 p.2 q.2);
  counted = omega (arith, x.counted, y.counted);
}

-- A freeing has come from the store `first` to slot `at` of `now` after n slots.
pub record IsUnderway {A : Type 0} (first now : Store A) (slot at n : ℕ) : Type 0 where
  pub freeing : (h : Holding) → IsFreeable (shelf_of first) slot h
      → (m : Holding) × IsFreeing (shelf_of now) slot at n h m
  pub turns : now.turns.count ≡ first.turns.count + 1 + n
  pub room : KeepsRoom first now

-- Turns go on with it.
pub underway-then : {A : Type 0} (first a b : Store A) (slot at next n k : ℕ) → IsUnderway first a slot at n
    → IsTurnTo a b at next k → KeepsRoom a b → IsUnderway first b slot next (n + k)
underway-then first a b slot at next n k u t room = record {
  freeing = λ h w.
      let r = u.freeing h w in
      let s = t.turned r.0 r.1.settling in
      (s.0, freeing-turned (shelf_of b) slot next n k h r.0 s.0 at (shelf_of a) r.1 s.1 s.2);
  turns = omega (arith, u.turns, t.counted);
  room = keeps-room first a b u.room room;
}

pub underway-counted : {A : Type 0} (first a b : Store A) (slot at next n m : ℕ) → IsUnderway first a slot at n
    → AreTurnsTo a b at next n m → KeepsRoom a b → IsUnderway first b slot next m
underway-counted first a b slot at next n m u t room = rw t.1 (underway-then first a b slot at next n t.0 u t.2 room)

-- The leaf of slot `at` is at work.
pub underway-at : {A : Type 0} (first now : Store A) (slot at n : ℕ)
    → ((h : Holding) × IsFreeable (shelf_of first) slot h) → IsUnderway first now slot at n
    → (m : Holding) × IsSettlingAt (shelf_of now) at m
underway-at first now slot at n t u = let r = u.freeing t.0 t.1 in (r.0, r.1.settling)

-- Fewer slots were given back than there are.
pub underway-fewer : {A : Type 0} (first now : Store A) (slot at n : ℕ)
    → ((h : Holding) × IsFreeable (shelf_of first) slot h) → IsUnderway first now slot at n
    → n < length first.slots.items
underway-fewer first now slot at n t u =
    let r = u.freeing t.0 t.1 in
    freeing-short (shelf_of first) (shelf_of now) slot at n t.0 r.0 t.1 r.1

pub underway-few : {A : Type 0} (first now : Store A) (slot at n : ℕ)
    → ((h : Holding) × IsFreeable (shelf_of first) slot h) → IsUnderway first now slot at n → n < 16777216
underway-few first now slot at n t u = omega (arith, underway-fewer first now slot at n t u, t.1.holds.short)
