-- Hiding the slots of ids, and showing them again.
use Rattle.std.proofs.Common.{ℕ, ◌+◌, ◌/◌, ◌%◌, ◌^◌, ◌<◌, ◌≡◌, ◌≢◌, ◌↔◌, ◌&&◌, ◌==◌, true, false, List, []}
use Rattle.std.proofs.Common.{◌∷◌, ◌++◌, length, take, drop, set, get_or, refl, sym, ap, subst, ◌∙◌, arith}
use Rattle.std.proofs.lemmas.Bool.{ne_eqb, eqb-false, true≢false, or_parts, or_from}
use Rattle.std.proofs.lemmas.List.{take_more, take_all, take-append-drop, get_or-set_same, get_or-set_other, length-set}
use Rattle.std.proofs.lemmas.List.{set-set, set-get_or}
use Rattle.atlas_store.specs.Batches.{AreNamedOnce, hidden, AreHidable}
use Rattle.atlas_model.specs.Changes.{only}
use Rattle.atlas_model.specs.Laws.TreeLaws.{is_among}
use Rattle.atlas_store.specs.Slots.{nodes, rings, node_at, blank_node, use_count, node_of, ring_of}
use Rattle.atlas_store.specs.Visits.{is_alloc, is_named}
use Rattle.atlas_store.specs.Slots.Standing.{with_kind}
use Rattle.atlas_store.specs.declared.slots.Node.{Node}
use Rattle.atlas_store.specs.declared.slots.Slot.{Slot}
use Rattle.atlas_store.specs.declared.slots.NodeKind.TheVariants as kind
use Rattle.atlas_store.proofs.SlotLemmas.JoinWrites.{used-inside}
use Rattle.atlas_store.proofs.WalkLemmas.FreedAtlas.{named-parts}

hidden-append : (ns : List Node) (xs ys : List ℕ) → hidden ns (xs ++ ys) ≡ hidden (hidden ns xs) ys
hidden-append ns [] ys = refl
hidden-append ns (x ∷ xs) ys = hidden-append (with_kind ns (x % 2 ^ 24) kind.Unused) xs ys

hidable-append : (ns : List Node) (xs ys : List ℕ) → AreHidable ns xs → AreHidable (hidden ns xs) ys
    → AreHidable ns (xs ++ ys)
hidable-append ns [] ys h k = k
hidable-append ns (x ∷ xs) ys h k = (h.0, hidable-append (with_kind ns (x % 2 ^ 24) kind.Unused) xs ys h.1 k)

hidable-front : (ns : List Node) (xs ys : List ℕ) → AreHidable ns (xs ++ ys) → AreHidable ns xs
hidable-front ns [] ys h = tt
hidable-front ns (x ∷ xs) ys h = (h.0, hidable-front (with_kind ns (x % 2 ^ 24) kind.Unused) xs ys h.1)

hidable-back : (ns : List Node) (xs ys : List ℕ) → AreHidable ns (xs ++ ys) → AreHidable (hidden ns xs) ys
hidable-back ns [] ys h = h
hidable-back ns (x ∷ xs) ys h = hidable-back (with_kind ns (x % 2 ^ 24) kind.Unused) xs ys h.1

length-hidden : (ns : List Node) (xs : List ℕ) → length (hidden ns xs) ≡ length ns
length-hidden ns [] = refl
length-hidden ns (x ∷ xs) = grind (arith, length-hidden (with_kind ns (x % 2 ^ 24) kind.Unused) xs, length-set)

-- One slot more is hidden.
pub hidden-more : (ns now new : List Node) (ids : List ℕ) (k id at : ℕ) → k < length ids → id ≡ get_or ids k id
    → at ≡ id % 2 ^ 24
    → now ≡ hidden ns (take k ids) → new ≡ with_kind now at kind.Unused → new ≡ hidden ns (take (k + 1) ids)
hidden-more ns now new ids k id at l is slot e w =
    let here : take (k + 1) ids ≡ take k ids ++ id ∷ [] = take_more ids k id l ∙ ap (λ v. take k ids ++ v ∷ []) (sym is) in
    w ∙ ap (λ v. with_kind now v kind.Unused) slot ∙ ap (λ v. with_kind v (id % 2 ^ 24) kind.Unused) e ∙
    sym (ap (hidden ns) here ∙ hidden-append ns (take k ids) (id ∷ []))

pub hidable-more : (ns now : List Node) (ids : List ℕ) (k id : ℕ) → k < length ids → id ≡ get_or ids k id
    → now ≡ hidden ns (take k ids) → AreHidable ns (take k ids)
    → is_named now id ≡ true → AreHidable ns (take (k + 1) ids)
hidable-more ns now ids k id l is e h named =
    let here : take (k + 1) ids ≡ take k ids ++ id ∷ [] = take_more ids k id l ∙ ap (λ v. take k ids ++ v ∷ []) (sym is) in
    subst (AreHidable ns) (sym here) (hidable-append ns (take k ids) (id ∷ []) h (subst (λ v. is_named v id ≡ true) e named, tt))

-- Of ids that can be hidden each names a slot where those before it are hidden.
pub named-next : (ns : List Node) (ids : List ℕ) (k id : ℕ) → k < length ids → id ≡ get_or ids k id → AreHidable ns ids
    → is_named (hidden ns (take k ids)) id ≡ true
named-next ns ids k id l is h =
    let here : take (k + 1) ids ≡ take k ids ++ id ∷ [] = take_more ids k id l ∙ ap (λ v. take k ids ++ v ∷ []) (sym is) in
    let front : AreHidable ns (take (k + 1) ids) = hidable-front ns (take (k + 1) ids) (drop (k + 1) ids)
    (subst (AreHidable ns) (sym (take-append-drop (k + 1) ids)) h) in
    (hidable-back ns (take k ids) (id ∷ []) (subst (AreHidable ns) here front)).0

pub not-hidable : (ns now : List Node) (ids : List ℕ) (k id : ℕ) → k < length ids → id ≡ get_or ids k id
    → now ≡ hidden ns (take k ids) → is_named now id ≡ false
    → AreHidable ns ids → ⊥
not-hidable ns now ids k id l is e missed h = grind (arith, true≢false, named-next)

-- A slot that was hidden is shown again.
with_kind-back : (ns : List Node) (i : ℕ) → (node_at ns i).kind ≡ kind.Alloc
    → with_kind (with_kind ns i kind.Unused) i kind.Alloc ≡ ns
with_kind-back ns i was =
    let inside : i < length ns = used-inside ns i (subst (λ k. 0 < use_count k) (sym was) (omega arith)) in
    let there : node_at (with_kind ns i kind.Unused) i ≡ record (node_at ns i) { kind = kind.Unused } =
    get_or-set_same ns i _ blank_node inside in
    let same : record (node_at ns i) { kind = kind.Alloc } ≡ node_at ns i = ap (λ k. record (node_at ns i) { kind = k }) (sym was) in
    ap (λ n. set (with_kind ns i kind.Unused) i (record n { kind = kind.Alloc })) there
    ∙ ap (λ n. set (with_kind ns i kind.Unused) i n) same
    ∙ set-set ns i _ (node_at ns i)
    ∙ set-get_or ns i blank_node

pub shown-inside : (ns now : List Node) (ids : List ℕ) (k id at m : ℕ) → k < length ids → id ≡ get_or ids k id
    → at ≡ id % 2 ^ 24
    → now ≡ hidden ns (take (k + 1) ids) → AreHidable ns ids → m ≡ length now → at < m
shown-inside ns now ids k id at m l is slot e h em =
    let was = named-parts (hidden ns (take k ids)) id (named-next ns ids k id l is h) in
    let used : 0 < use_count (node_at (hidden ns (take k ids)) (id % 2 ^ 24)).kind =
    subst (λ v. 0 < use_count v) (sym was.kind) (omega arith) in
    let inside : id % 2 ^ 24 < length (hidden ns (take k ids)) = used-inside (hidden ns (take k ids)) (id % 2 ^ 24) used in
    omega (arith, inside, slot, em, ap length e, length-hidden ns (take k ids), length-hidden ns (take (k + 1) ids))

pub shown-more : (ns now new : List Node) (ids : List ℕ) (k id at : ℕ) → k < length ids → id ≡ get_or ids k id
    → at ≡ id % 2 ^ 24
    → now ≡ hidden ns (take (k + 1) ids) → AreHidable ns ids → new ≡ with_kind now at kind.Alloc
    → new ≡ hidden ns (take k ids)
shown-more ns now new ids k id at l is slot e h w =
    let here : take (k + 1) ids ≡ take k ids ++ id ∷ [] = take_more ids k id l ∙ ap (λ v. take k ids ++ v ∷ []) (sym is) in
    let was = named-parts (hidden ns (take k ids)) id (named-next ns ids k id l is h) in
    let last : now ≡ with_kind (hidden ns (take k ids)) (id % 2 ^ 24) kind.Unused = e ∙ ap (hidden ns) here ∙
    hidden-append ns (take k ids) (id ∷ []) in
    w ∙ ap (λ v. with_kind now v kind.Alloc) slot ∙ ap (λ v. with_kind v (id % 2 ^ 24) kind.Alloc) last ∙
    with_kind-back (hidden ns (take k ids)) (id % 2 ^ 24) was.kind

-- Hiding a slot takes its id from those that name one, and no other.
module _ (ns : List Node) (id : ℕ) where
  elsewhere : (k : ℕ) → (k ≡ id % 2 ^ 24 → ⊥) → node_at (with_kind ns (id % 2 ^ 24) kind.Unused) k ≡ node_at ns k
  elsewhere k ne = get_or-set_other ns (id % 2 ^ 24) k (record (node_at ns (id % 2 ^ 24)) { kind = kind.Unused }) blank_node ne

  same_name : (k : ℕ) → node_at (with_kind ns (id % 2 ^ 24) kind.Unused) (k % 2 ^ 24) ≡ node_at ns (k % 2 ^ 24)
      → is_named (with_kind ns (id % 2 ^ 24) kind.Unused) k ≡ is_named ns k
  same_name k e = ap (λ (n : Node). is_alloc n.kind && (n.generation == k / 2 ^ 24)) e

  -- A hidden slot is named no more.
  apart : (k : ℕ) → is_named (with_kind ns (id % 2 ^ 24) kind.Unused) k ≡ true → k % 2 ^ 24 ≡ id % 2 ^ 24 → ⊥
  apart k named e =
      let is = named-parts (with_kind ns (id % 2 ^ 24) kind.Unused) k named in
      let used : 0 < use_count (node_at (with_kind ns (id % 2 ^ 24) kind.Unused) (k % 2 ^ 24)).kind =
      subst (λ v. 0 < use_count v) (sym is.kind) (omega arith) in
      let within : k % 2 ^ 24 < length (with_kind ns (id % 2 ^ 24) kind.Unused) =
      used-inside (with_kind ns (id % 2 ^ 24) kind.Unused) (k % 2 ^ 24) used in
      let inside : id % 2 ^ 24 < length ns = omega (
        arith,
        within,
        e,
        length-set ns (id % 2 ^ 24)
            (record (node_at ns (id % 2 ^ 24)) { kind = kind.Unused }),
      ) in
      let there : node_at (with_kind ns (id % 2 ^ 24) kind.Unused) (id % 2 ^ 24) ≡ record (node_at ns (id % 2 ^ 24))
      { kind = kind.Unused } =
      get_or-set_same ns (id % 2 ^ 24) _ blank_node inside in
      let alloc : (node_at (with_kind ns (id % 2 ^ 24) kind.Unused) (id % 2 ^ 24)).kind ≡ kind.Alloc =
      ap (λ v. (node_at (with_kind ns (id % 2 ^ 24) kind.Unused) v).kind) (sym e) ∙ is.kind in
      let unused : (node_at (with_kind ns (id % 2 ^ 24) kind.Unused) (id % 2 ^ 24)).kind ≡ kind.Unused = ap (λ (n : Node). n.kind) there in
      let both : kind.Unused ≡ kind.Alloc = sym unused ∙ alloc in
      cc

  weaker : (k : ℕ) → is_named (with_kind ns (id % 2 ^ 24) kind.Unused) k ≡ true → (is_named ns k ≡ true) × (k ≡ id → ⊥)
  weaker k named = grind (arith, same_name, elsewhere, apart)

  -- Two ids that name a slot are one.
  one_name : (k : ℕ) → is_named ns id ≡ true → is_named ns k ≡ true → k % 2 ^ 24 ≡ id % 2 ^ 24 → k ≡ id
  one_name k named also e = grind arith

  stronger : (k : ℕ) → is_named ns id ≡ true → is_named ns k ≡ true → (k ≡ id → ⊥)
      → is_named (with_kind ns (id % 2 ^ 24) kind.Unused) k ≡ true
  stronger k named also ne = grind (arith, same_name, elsewhere, one_name)

  named-weaker : (xs : List ℕ) → AreNamedOnce (with_kind ns (id % 2 ^ 24) kind.Unused) xs
      → AreNamedOnce ns xs × (is_among xs id ≡ false)
  named-weaker [] h = (tt, refl)
  named-weaker (x ∷ xs) h =
      let w = weaker x h.0 in
      let rest = named-weaker xs h.2 in
      ((w.0, h.1, rest.0), or_from (only x id) (is_among xs id) (ne_eqb id x (λ e. w.1 (sym e))) rest.1)

  named-stronger : (xs : List ℕ) → is_named ns id ≡ true → AreNamedOnce ns xs → is_among xs id ≡ false
      → AreNamedOnce (with_kind ns (id % 2 ^ 24) kind.Unused) xs
  named-stronger [] named h none = tt
  named-stronger (x ∷ xs) named h none =
      let parts = or_parts (only x id) (is_among xs id) none in
      (stronger x named h.0 (λ e. eqb-false id x parts.0 (sym e)), h.1, named-stronger xs named h.2 parts.1)

hidable-named : (ns : List Node) (xs : List ℕ) → AreHidable ns xs → AreNamedOnce ns xs
hidable-named ns [] h = tt
hidable-named ns (x ∷ xs) h = grind (arith, named-weaker, hidable-named (with_kind ns (x % 2 ^ 24) kind.Unused) xs h.1)

named-hidable : (ns : List Node) (xs : List ℕ) → AreNamedOnce ns xs → AreHidable ns xs
named-hidable ns [] h = tt
named-hidable ns (x ∷ xs) h =
    (h.0, named-hidable (with_kind ns (x % 2 ^ 24) kind.Unused) xs (named-stronger ns x xs h.0 h.2 h.1))

-- Whether all were hidden says whether each id names a slot, and none stands twice.
pub named-hidden : (ns : List Node) (ids : List ℕ) (count : ℕ) → AreHidable ns (take count ids)
    → (count ≢ length ids → AreHidable ns ids → ⊥)
    → (count ≡ length ids) ↔ AreNamedOnce ns ids
named-hidden ns ids count front last = grind (arith, hidable-named, take_all, named-hidable)

cons-same : (x y : Slot) (xs ys : List Slot) → x ≡ y → xs ≡ ys → x ∷ xs ≡ y ∷ ys
cons-same x y xs ys e f = ap (λ v. v ∷ xs) e ∙ ap (λ v. y ∷ v) f

slot-same : (x y : Slot) → node_of x ≡ node_of y → ring_of x ≡ ring_of y → x ≡ y
slot-same x y a b = λ i. record {
  parent = (a i).parent;
  previous = (a i).previous;
  next = (a i).next;
  area = (a i).area;
  up = (b i).up;
  left = (b i).left;
  right = (b i).right;
  kind = (a i).kind;
  axis = (a i).axis;
  generation = (a i).generation;
  is_fork = (b i).is_fork;
}

-- Slots are their parts.
pub slots-same : (xs ys : List Slot) → nodes xs ≡ nodes ys → rings xs ≡ rings ys → xs ≡ ys
slots-same [] [] n r = refl
slots-same (x ∷ xs) (y ∷ ys) n r =
    grind (arith, slot-same x y, cons-same x y, slots-same xs ys)
slots-same xs ys n r = absurd (cc)
