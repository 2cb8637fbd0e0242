-- A free leaf gives way to what a plan says: one edit of the tree.
use Rattle.std.proofs.Common.{ℕ, ◌+◌, ◌-◌, ◌<◌, ◌≤◌, ◌≡◌, ◌≢◌, ◌⊎◌, true, false, List, [], ◌∷◌, refl, sym, ap, ◌∙◌, arith}
use Rattle.std.proofs.lemmas.Bool.{cases_eq, cases_lt}
use Rattle.atlas_search.specs.declared.link.Link.{Link}
use Rattle.atlas_store.specs.declared.slots.Node.{Node}
use Rattle.atlas_store.specs.declared.slots.NodeKind.{NodeKind}
use Rattle.atlas_store.specs.declared.slots.NodeKind.TheVariants as kind
use Rattle.atlas_store.specs.declared.slots.placing.Parts.{Parts}
use Rattle.atlas_store.specs.declared.slots.placing.Plan.{Plan}
use Rattle.atlas_store.specs.declared.slots.placing.Plan.TheVariants as plan
use Rattle.atlas_search.specs.declared.cut.Orientation.{Orientation}
use Rattle.atlas_model.specs.Boxes.{other, side, box_sides}
use Rattle.atlas_model.specs.Pixels.{rectangle_of}
use Rattle.atlas_store.specs.Slots.{node_at, use_count, axis_of, KeepsUse}
use Rattle.atlas_search.specs.Numbers.{no_slot, occurs, same}
use Rattle.atlas_store.specs.Slots.Lists.{is_free}
use Rattle.atlas_store.specs.Slots.Numbered.{Numbered, tally, first_slot, is_free_at, End, Free, Alloc}
use Rattle.atlas_store.specs.Slots.Standing.{Sequence, Standing, Stands, IsLinkedIn, inside, member_box}
use Rattle.atlas_store.specs.Slots.Parts.{front_part, back_part, front_node, back_node, inner_node}
use Rattle.atlas_search.specs.Rectangles.{flipped}
use Rattle.atlas_store.specs.Slots.Reading.{extent_of}
use Rattle.atlas_store.specs.Slots.Placing.{
  across_of,
  CanPlace,
  HasParts,
  IsCarriedOut,
  following,
  granted_by,
  left_by,
  marks_of,
  planned,
  put_by,
  putting,
  taken_by,
}
use Rattle.atlas_store.proofs.SlotLemmas.Frames.{
  Standing-same,
  keeps-same,
  same-self,
  same-ne,
  used-le,
  ne-from_count,
}
use Rattle.atlas_store.proofs.SlotLemmas.MemberLinks.{next-in}
use Rattle.atlas_store.proofs.StoreLemmas.FiledSlots.{with_mark-same, with_mark-other}
use Rattle.atlas_store.proofs.SlotLemmas.Joins.{Standing-before}
use Rattle.atlas_store.proofs.SlotLemmas.Weights.{free-in, free_place}
use Rattle.atlas_store.proofs.SlotLemmas.Edits.{
  IsEdit,
  Standing-edited,
  free_here,
  first-edited,
  weigh-edited,
  other-slot,
}

pub axis_of-flipped : (o : Orientation) → axis_of (flipped o) ≡ other (axis_of o)
axis_of-flipped o = grind arith

-- The only member inside a member fills its box.
pub box-inside : (s : Sequence) (i p e : ℕ) → member_box (inside s i p e) s.start s.width ≡ member_box s p e
box-inside s i p e = grind arith

-- The extent that a member's box shows.
side-member : (s : Sequence) (p e : ℕ) → side s.axis (box_sides (member_box s p e)) ≡ e
side-member s p e = grind arith

-- The two parts of a member's box.
front-member : (s : Sequence) (p e q : ℕ) → front_part s.axis q (member_box s p e) ≡ member_box s p q
front-member s p e q = grind arith

regroup : (p e q : ℕ) → q < e → p + q + (e - q) ≡ p + e
regroup p e q l = omega arith

back-member : (s : Sequence) (p e q : ℕ) → q < e → back_part s.axis q (member_box s p e) ≡ member_box s (p + q)
    (e - q)
back-member s p e q l = grind (arith, regroup)

-- A node of a free leaf from p on in a sequence, of extent e, that comes after slot b and before slot a.
pub record IsLeafIn (n : Node) (s : Sequence) (b a p e : ℕ) : Type 0 where
  pub link : IsLinkedIn n s b a kind.Free
  pub area : n.area ≡ rectangle_of (member_box s p e)

front-leaf : (n : Node) (s : Sequence) (b a p e q : ℕ) (k : Link) → IsLeafIn n s b a p e
    → IsLeafIn (front_node n q k) s b k.number p q
front-leaf n s b a p e q k l = grind (arith, front-member)

back-leaf : (n u : Node) (s : Sequence) (b a p e q : ℕ) (i : Link) → q < e → IsLeafIn n s b a p e
    → IsLeafIn (back_node n q i u) s i.number a (p + q) (e - q)
back-leaf n u s b a p e q i less l = grind (arith, back-member)

inner-leaf : (n u : Node) (s : Sequence) (b a p e : ℕ) (i : Link) → IsLeafIn n s b a p e
    → IsLeafIn (inner_node n i u) (inside s i.number p e) no_slot no_slot s.start s.width
inner-leaf n u s b a p e i l = grind (arith, axis_of-flipped, box-inside)

used-as : (n : Node) (s : Sequence) (b a p e : ℕ) (k : NodeKind) → IsLeafIn n s b a p e
    → IsLinkedIn (record n { kind = k }) s b a k
used-as n s b a p e k l =
    record { parent = l.link.parent; previous = l.link.previous; next = l.link.next; kind = refl; axis = l.link.axis }

-- The parts of a leaf stand in its place.
abbrev AreIn : (ms : List Node) (s : Sequence) (b a p e q : ℕ) (front : Link) (k : NodeKind) (back : Link) → Type 0
AreIn ms s b a p e q front k back =
    IsLinkedIn (node_at ms front.number) s b back.number k
    × ((node_at ms front.number).area ≡ rectangle_of (member_box s p q))
    × IsLeafIn (node_at ms back.number) s front.number a (p + q) (e - q)

parts-in : (ns ms : List Node) (n : Node) (s : Sequence) (b a p e q : ℕ) (front : Link) (k : NodeKind) (back : Link)
    → q < e
    → IsLeafIn n s b a p e → HasParts ns ms n q front k back → AreIn ms s b a p e q front k back
parts-in ns ms n s b a p e q front k back less l w = grind (arith, front-leaf, back-leaf, used-as)

-- A lone leaf is cut, and its first part granted.
granted-in : (ns ms : List Node) (n : Node) (s : Sequence) (p e q : ℕ) (front back : Link) → q < e
    → IsLeafIn n s no_slot no_slot p e → HasParts ns ms n q front kind.Alloc back
    → Standing ms s no_slot p (Alloc front.number n.generation q (Free back.number (e - q) End))
granted-in ns ms n s p e q front back less l w = grind (arith, parts-in)

module _ (ns ms : List Node) (at : Link) (p : Plan) (t : Parts) (w : IsCarriedOut ns ms at p t) where
  abbrev i : ℕ
  i = at.number

  -- Of the members after the leaf none is in a slot that is taken, and none stands twice.
  record IsRest (s : Sequence) (q : ℕ) (rest : Numbered) : Type 0 where
    pub once : (x : ℕ) → same x i + tally x rest ≤ 1
    pub none : tally no_slot rest ≡ 0
    pub new : (x : ℕ) → 0 < occurs x (taken_by p t) → tally x rest ≡ 0
    pub goes : (node_at ns i).next.number ≡ first_slot rest
    pub stands : Standing ns s i q rest

  module _ (s : Sequence) (q : ℕ) (rest : Numbered) (r : IsRest s q rest) where
    untaken : (j : ℕ) → 0 < tally j rest → occurs j (taken_by p t) ≡ 0
    untaken j l = grind (arith, cases_lt 0 (occurs j (taken_by p t)), r.new j)

    apart : (j : ℕ) → 0 < tally j rest → j ≢ i
    apart j l e = absurd (omega (arith, r.once j, ap (same j) e, same-self j))

    some : (j : ℕ) → 0 < tally j rest → j ≢ no_slot
    some j l e = absurd (omega (arith, ap (λ x. tally x rest) e, r.none))

    others : (j : ℕ) → j ≢ first_slot rest → 0 < tally j rest → node_at ms j ≡ node_at ns j
    others j ne l = w.others j (apart j l) (λ e. ne (e ∙ r.goes)) (untaken j l)

    moves : 0 < tally (first_slot rest) rest → node_at ms (first_slot rest) ≡ following p t
        (node_at ns (first_slot rest))
    moves l = rw (← r.goes) (w.moved (λ e. some (first_slot rest) l (sym r.goes ∙ e)))

    -- The members after the leaf stay.
    stays : ((n : Node) → following p t n ≡ n) → Standing ms s i q rest
    stays same = Standing-same ns ms s i q rest (λ j l. grind (arith, cases_eq j (first_slot rest), others j, moves))
        r.stands

    -- Or they follow the split.
    follows : ((n : Node) → following p t n ≡ record n { previous = t.split }) → Standing ms s t.split.number q rest
    follows new =
        Standing-before ns ms t.split.number s i q rest (λ l. moves l ∙ new (node_at ns (first_slot rest))) others
        (omega (arith, r.once (first_slot rest))) r.stands

-- What a leaf shows of its place.

pub extent-is : (n : Node) (s : Sequence) (b a p e : ℕ) → IsLeafIn n s b a p e → extent_of n ≡ e
extent-is n s b a p e l = grind (arith, side-member)

pub across-is : (n : Node) (s : Sequence) (b a p e : ℕ) → IsLeafIn n s b a p e → across_of n ≡ s.width
across-is n s b a p e l = grind arith

module _ (ns ms : List Node) (at : Link) where
  abbrev leaf : Node
  leaf = node_at ns at.number

  -- At the leaf itself.
  at-leaf : (p : Plan) (t : Parts) (w : IsCarriedOut ns ms at p t) → CanPlace ns at.number p t
      → (s : Sequence) (b q e : ℕ) (rest : Numbered) → IsLeafIn leaf s b (first_slot rest) q e
      → IsRest ns ms at p t w s (q + e) rest
      → Standing ms s b q (put_by p t (node_at ns (granted_by p t at.number)).generation s.width at.number e rest)
  at-leaf plan.Whole t w can s b q e rest l r = grind (arith, stays ns ms at plan.Whole t w s (q + e) rest r)
  at-leaf (plan.StripAlong p) t w can s b q e rest l r =
      grind (arith, extent-is, parts-in, regroup q e p, follows ns ms at (plan.StripAlong p) t w s (q + e) rest r)
  at-leaf (plan.CornerAlong p x) t w can s b q e rest l r =
      grind (
        arith,
        extent-is,
        across-is,
        parts-in,
        inner-leaf,
        front-leaf,
        granted-in,
        regroup q e p,
        follows ns ms at (plan.CornerAlong p x) t w s (q + e) rest r,
      )
  at-leaf (plan.StripAcross x) t w can s b q e rest l r =
      grind (arith, across-is, inner-leaf, granted-in, stays ns ms at (plan.StripAcross x) t w s (q + e) rest r)
  at-leaf (plan.CornerAcross p x) t w can s b q e rest l r =
      let a = first_slot rest in
      let less : p < e = omega (arith, can.feasible.1, extent-is leaf s b a q e l) in
      let less_x : x < s.width = omega (arith, can.feasible.3, across-is leaf s b a q e l) in
      let c = t.container.number in
      let v = node_at ns c in
      let u = node_at ns t.granted.number in
      let outer : Sequence = inside s at.number q e in
      let first : Node = inner_node leaf at v in
      let front : Node = front_node first x t.split in
      let fills = inner-leaf leaf v s b a q e at l in
      let i = parts-in ns ms first outer no_slot no_slot s.start s.width x t.container kind.Container t.split less_x
      fills w.written.1 in
      let inner = inner-leaf front u outer no_slot t.split.number s.start x t.container
      (front-leaf first outer no_slot no_slot s.start s.width x t.split fills) in
      let cut = granted-in ns ms (inner_node front t.container u) (inside outer c s.start x) q e p t.granted
      t.leftover less inner w.written.2 in (
        rw w.written.0 (used-as leaf s b a q e kind.Container l),
        rw w.written.0 l.area,
        (i.0, i.1, cut, (i.2.link, i.2.area, tt)),
        stays ns ms at (plan.CornerAcross p x) t w s (q + e) rest r (λ n. refl),
      )

-- The slots that are taken come into the tree.
put-tally : (p : Plan) (t : Parts) (g across i e x : ℕ) (rest : Numbered)
    → tally x (put_by p t g across i e rest) ≡ tally x (Free i e rest) + occurs x (taken_by p t)
put-tally p t g across i e x rest = grind arith

pub tally-planned : (ns : List Node) (i : ℕ) → (node_at ns i).kind ≡ kind.Free
    → (p : Plan) (t : Parts) (g : ℕ) (s : Sequence) (n : Numbered)
    → Stands ns s n → (x : ℕ) → tally x (planned p t i g s.width n) ≡ tally x n + occurs x (taken_by p t)
tally-planned ns i free p t g s n h x =
    let more = weigh-edited (is_free_at i) (putting p t g) ns (same x) 0 (occurs x (taken_by p t)) refl
    (λ s b q. free_here i _ (grind (arith, put-tally))) s no_slot 0 n h.standing (free_place ns i s n free h) in
    omega (arith, more)

put-first : (p : Plan) (t : Parts) (g across i e : ℕ) (rest : Numbered)
    → first_slot (put_by p t g across i e rest) ≡ i
put-first p t g across i e rest = grind arith

-- The first member keeps its slot.
pub first-planned : (p : Plan) (t : Parts) (i g across : ℕ) (n : Numbered)
    → first_slot (planned p t i g across n) ≡ first_slot n
first-planned p t i g = first-edited (is_free_at i) (putting p t g) (grind (arith, put-first))

pub unmarked : (x : ℕ) (ks : List ℕ) → occurs x ks ≡ 0 → marks_of ks x ≡ false
unmarked x [] z = refl
unmarked x (k ∷ ks) z = grind (arith, with_mark-other, same-self k, unmarked x ks (omega (arith, z)))

-- A slot that isn't taken isn't left free.
pub untaken-unmarked : (p : Plan) (t : Parts) (x : ℕ) → occurs x (taken_by p t) ≡ 0 → marks_of (left_by p t) x ≡ false
untaken-unmarked p t x z = grind (arith, unmarked x)

-- What a slot that is taken becomes.
abbrev pub IsOutOf : List ℕ → Node → ℕ → Type 0
IsOutOf ks n x = (marks_of ks x ≡ true) ⊎ (is_free n.kind ≡ false)

module _ (ns ms : List Node) (at : Link) where
  abbrev IsPartNode : List ℕ → ℕ → Type 0
  IsPartNode ks x =
      (use_count (node_at ms x).kind ≡ 1) × IsOutOf ks (node_at ms x) x
      × ((node_at ms x).generation ≡ (node_at ns x).generation)

  marked_first : (x : ℕ) (ks : List ℕ) → marks_of (x ∷ ks) x ≡ true
  marked_first x ks = with_mark-same (marks_of ks) x true

  marked_second : (x y : ℕ) → marks_of (x ∷ y ∷ []) y ≡ true
  marked_second x y = grind (arith, cases_eq y x, with_mark-same, with_mark-other)

  pub placed-part : (p : Plan) (t : Parts) → IsCarriedOut ns ms at p t → (x : ℕ) → 0 < occurs x (taken_by p t)
      → IsPartNode (left_by p t) x
  placed-part plan.Whole t w x = grind arith
  placed-part (plan.StripAlong p) t w x = grind (arith, cases_eq x, same-ne x, marked_first)
  placed-part (plan.CornerAlong p q) t w x =
      grind (arith, cases_eq x t.leftover.number, cases_eq x t.granted.number, same-ne x, marked_first, marked_second)
  placed-part (plan.StripAcross q) t w x = grind (arith, cases_eq x, same-ne x, marked_first)
  placed-part (plan.CornerAcross p q) t w x =
      grind (
        arith,
        cases_eq x t.leftover.number,
        cases_eq x t.granted.number,
        cases_eq x t.container.number,
        same-ne x,
        marked_first,
        marked_second,
      )

  abbrev IsUsedAs : Node → Type 0
  IsUsedAs n = (use_count n.kind ≡ 1) × (is_free n.kind ≡ false) × (n.generation ≡ (node_at ns at.number).generation)

  -- The leaf's own slot is granted, or holds what is.
  pub placed-leaf : (p : Plan) (t : Parts) → IsCarriedOut ns ms at p t → IsUsedAs (node_at ms at.number)
  placed-leaf p t w = grind arith

  -- What is granted.
  pub placed-granted : (p : Plan) (t : Parts) → IsCarriedOut ns ms at p t
      → (node_at ms (granted_by p t at.number)).kind ≡ kind.Alloc
  placed-granted p t w = grind arith

  abbrev IsFreeAt : ℕ → Type 0
  IsFreeAt x = (node_at ms x).kind ≡ kind.Free

  -- What is left free.
  pub placed-left : (p : Plan) (t : Parts) → IsCarriedOut ns ms at p t → (x : ℕ) → 0 < occurs x (left_by p t) → IsFreeAt x
  placed-left p t w x = grind (arith, cases_eq x, same-ne x)

-- What is left free is taken once.
pub left-once : (p : Plan) (t : Parts) → ((x : ℕ) → occurs x (taken_by p t) ≤ 1) → (x : ℕ)
    → occurs x (left_by p t) ≤ 1
left-once p t once x = grind (arith, once x)

following-use : (p : Plan) (t : Parts) (n : Node) → KeepsUse n (following p t n)
following-use p t n = grind arith

module _ (ns ms : List Node) (at : Link) (p : Plan) (t : Parts) (w : IsCarriedOut ns ms at p t)
    (can : CanPlace ns at.number p t) where
  abbrev after : ℕ
  after = (node_at ns at.number).next.number

  -- The other slots keep what they are used for.
  pub placed-others : (x : ℕ) → x ≢ at.number → occurs x (taken_by p t) ≡ 0 → KeepsUse (node_at ns x) (node_at ms x)
  placed-others x ne z = grind (arith, cases_eq x after, cases_eq after no_slot, following-use p t, keeps-same)

  pub untaken_leaf : occurs at.number (taken_by p t) ≡ 0
  untaken_leaf = grind (arith, cases_lt 0 (occurs at.number (taken_by p t)), can.unused at.number)

  pub used_after : (x : ℕ) → use_count (node_at ms x).kind ≡ use_count (node_at ns x).kind + occurs x (taken_by p t)
  used_after x = grind (
    arith,
    cases_eq x at.number,
    cases_lt 0 (occurs x (taken_by p t)),
    placed-leaf ns ms at p t w,
    placed-part ns ms at p t w x,
    placed-others x,
    untaken_leaf,
    can.unused x,
    can.once x,
  )

  -- Each slot keeps its generation.
  pub placed-generation : (x : ℕ) → (node_at ms x).generation ≡ (node_at ns x).generation
  placed-generation x =
      grind (
        arith,
        cases_eq x at.number,
        cases_lt 0 (occurs x (taken_by p t)),
        placed-leaf ns ms at p t w,
        placed-part ns ms at p t w x,
        placed-others x,
      )

  rest-in : (n : Numbered) → ((x : ℕ) → tally x n ≤ 1) → tally no_slot n ≡ 0
      → ((x : ℕ) → 0 < occurs x (taken_by p t) → tally x n ≡ 0)
      → (s : Sequence) (b q e : ℕ) (rest : Numbered) → ((x : ℕ) → tally x (Free at.number e rest) ≤ tally x n)
      → Standing ns s b q (Free at.number e rest) → IsRest ns ms at p t w s (q + e) rest
  rest-in n once none new s b q e rest less h = record {
    once = λ x. omega (arith, less x, once x);
    none = omega (arith, less no_slot, none);
    new = λ x l. omega (arith, less x, new x l);
    goes = h.0.next;
    stands = h.2;
  }

  abbrev g : ℕ
  g = (node_at ns (granted_by p t at.number)).generation

  edit : (n : Numbered) → ((x : ℕ) → tally x n ≤ 1) → tally no_slot n ≡ 0
      → ((x : ℕ) → 0 < occurs x (taken_by p t) → tally x n ≡ 0)
      → IsEdit ns ms (is_free_at at.number) (putting p t g) n
  edit n once none new =
      record {
        never = refl;
        once = once;
        first = grind (arith, put-first);
        here = λ s b q. free_here at.number _ (λ e rest h less.
            at-leaf ns ms at p t w can s b q e rest (record { link = h.0; area = h.1 })
            (rest-in n once none new s b q e rest less h));
        beside = λ s b q v h one. grind (
          arith,
          free-in at.number v one,
          next-in ns at.number s b q v h,
          other-slot,
          ne-from_count no_slot,
          untaken-member n new,
        );
      }
    where
      untaken-member : (n : Numbered) → ((x : ℕ) → 0 < occurs x (taken_by p t) → tally x n ≡ 0) → (x : ℕ)
          → 0 < tally x n → occurs x (taken_by p t) ≡ 0
      untaken-member n new x some = grind (arith, cases_lt 0 (occurs x (taken_by p t)), new x)

  pub Stands-placed : (s : Sequence) (n : Numbered) → (node_at ns no_slot).kind ≡ kind.Unused → Stands ns s n
      → Stands ms s (planned p t at.number g s.width n)
  Stands-placed s n ends h =
      let once : (x : ℕ) → tally x n ≤ 1 = λ x. omega (arith, h.numbered x, used-le (node_at ns x).kind) in
      let none : tally no_slot n ≡ 0 = h.numbered no_slot ∙ ap (λ k. use_count k) ends in
      let new : (x : ℕ) → 0 < occurs x (taken_by p t) → tally x n ≡ 0 = λ x l. h.numbered x
      ∙ ap (λ k. use_count k) (can.unused x l) in
      record {
        standing = Standing-edited ns ms (is_free_at at.number) (putting p t g) n (edit n once none new) s
            no_slot 0 n (λ x. omega arith) (free_place ns at.number s n can.free h) h.standing;
        numbered = λ x. omega (arith, tally-planned ns at.number can.free p t g s n h x, used_after x, h.numbered x);
      }
