-- A showing of an allocated leaf, from its slot up the containers that have no other member left.
use Rattle.std.proofs.Common.{ℕ, ◌+◌, ◌<◌, ◌≤◌, ◌≡◌, ◌⊎◌, ◌||◌, inl, inr, List, Bool}
use Rattle.std.proofs.Common.{true, false, refl, sym, ap, ap₂, subst, ◌∙◌, arith, length, set}
use Rattle.std.proofs.Common.{suc, length-set, sum_by, cond, get_or}
use Rattle.std.proofs.lemmas.Bool.{cases_eq}
use Rattle.std.proofs.lemmas.List.Sums.{sum_by-set}
use Rattle.atlas_store.specs.declared.slots.Node.{Node}
use Rattle.atlas_store.specs.declared.slots.NodeKind.TheVariants as kind
use Rattle.atlas_model.specs.declared.geometry.Rectangle.{Rectangle}
use Rattle.atlas_model.specs.Boxes.{Box, IsInside}
use Rattle.atlas_model.specs.Pixels.{box_of, rectangle_of}
use Rattle.atlas_model.specs.Trees.{IsCut}
use Rattle.atlas_model.specs.Changes.{and_id}
use Rattle.atlas_model.proofs.TreeLemmas.TreeRoom.{inside_trans}
use Rattle.atlas_store.specs.Slots.{node_at, use_count}
use Rattle.atlas_search.specs.Numbers.{no_slot}
use Rattle.atlas_store.specs.Slots.Lists.{is_free}
use Rattle.atlas_store.specs.Slots.Numbered.{Numbered, tally, first_slot, erase, End, Free, Alloc, Seq}
use Rattle.atlas_store.specs.Slots.Standing.{Sequence, Standing, Stands, inside}
use Rattle.atlas_store.specs.Slots.Rehearsing.{is_open, Shows, ShowsBut, IsRunIn, OpenLine}
use Rattle.atlas_store.specs.Slots.Rehearsing.{IsUsedAt, IsRunStart, IsRunEnd, AreShownIn, leaf_id}
use Rattle.atlas_store.proofs.SlotLemmas.Frames.{same-ne, split_pos, used-le, used-inside}
use Rattle.atlas_store.proofs.SlotLemmas.JoinWrites.{none-unused}
use Rattle.atlas_store.proofs.SlotLemmas.Suffixes.{suffix-at}
use Rattle.atlas_store.proofs.SlotLemmas.OpenMembers.{IsOpenedAt, opened-set, shows-but, leaf-shown, container-shown}
use Rattle.atlas_store.proofs.SlotLemmas.OpenMembers.{top-shown, closed-shown, parent-closed, parent-apart, parent-container}
use Rattle.atlas_store.proofs.SlotLemmas.OpenWalks.{previous-used, next-used, line-after, none-closed}
use Rattle.atlas_store.proofs.SlotLemmas.OpenLines.{none-open, line-on, line-first, line-is_run}
use Rattle.atlas_store.proofs.SlotLemmas.LineBoxes.{IsAlong, line-beyond, exact-at, inside-parent, open-each}

-- How many slots aren't marked.
abbrev pub unmarked : List Bool → ℕ
unmarked marks = sum_by (λ (m : Bool). cond m 0 1) marks

or_no : (a b : Bool) → (a || b) ≡ false → b ≡ false
or_no a b e = grind arith

-- One less once a slot is marked that isn't open.
pub unmarked-falls : (ns : List Node) (marks : List Bool) (i : ℕ) → i < length marks → is_open ns marks i ≡ false
    → unmarked (set marks i true) < unmarked marks
unmarked-falls ns marks i l closed =
    let f : get_or marks i false ≡ false = or_no (is_free (node_at ns i).kind) (get_or marks i false) closed in
    let x = sum_by-set (λ (m : Bool). cond m 0 1) marks i true false l in
    omega (arith, rw f at x)

-- An allocated leaf is open exactly if the set has its id.
pub leaf-open : (o held : ℕ → Bool) (ns : List Node) (i : ℕ) (s : Sequence) (b p : ℕ) (n : Numbered)
    → (node_at ns i).kind ≡ kind.Alloc → Standing ns s b p n → Shows o held n → 0 < tally i n → o i ≡ held (leaf_id ns i)
leaf-open o held ns i s b p End was h f l = absurd (omega arith)
leaf-open o held ns i s b p (Free j e rest) was h f l =
    elim (cases_eq i j) [
      | inl q ↦ (let x = h.0.kind in absurd cc)
      | inr ne ↦ leaf-open o held ns i s j (p + e) rest was h.2 f.1 (omega (arith, same-ne i j ne))
    ]
leaf-open o held ns i s b p (Alloc j g e rest) was h f l =
    elim (cases_eq i j) [
      | inl q ↦ ap o q ∙ f.0 ∙ rw (q, h.2) refl
      | inr ne ↦ leaf-open o held ns i s j (p + e) rest was h.3 f.1 (omega (arith, same-ne i j ne))
    ]
leaf-open o held ns i s b p (Seq j e inner rest) was h f l =
    elim (cases_eq i j) [
      | inl q ↦ (let x = h.0.kind in absurd cc)
      | inr ne ↦ elim (split_pos (tally i inner) (tally i rest) (omega (arith, same-ne i j ne))) [
        | inl a ↦ leaf-open o held ns i (inside s j p e) no_slot s.start inner was h.2 f.1 a
        | inr a ↦ leaf-open o held ns i s j (p + e) rest was h.3 f.2 a
      ]
    ]

-- What follows a member has the same parent.
sibling : (ns : List Node) (i : ℕ) (s : Sequence) (p : ℕ) (n : Numbered) → Standing ns s no_slot p n → 0 < tally i n
    → ((node_at ns i).next.number ≡ no_slot → ⊥) → (node_at ns (node_at ns i).next.number).parent.number ≡ (node_at ns i).parent.number
sibling ns i s p n h l ne =
    let f = suffix-at ns i s no_slot p n h l in
    rw f.begins at (from f.at f.before f.start f.members f.standing (rw f.begins f.here) (rw f.begins ne))
  where
    head : (s : Sequence) (b p : ℕ) (m : Numbered) → Standing ns s b p m → (first_slot m ≡ no_slot → ⊥)
        → (node_at ns (first_slot m)).parent.number ≡ s.parent
    head s b p End h ne = absurd (ne refl)
    head s b p m h ne = h.0.parent

    from : (s : Sequence) (b p : ℕ) (m : Numbered) → Standing ns s b p m → 0 < tally (first_slot m) m
        → ((node_at ns (first_slot m)).next.number ≡ no_slot → ⊥)
        → (node_at ns (node_at ns (first_slot m)).next.number).parent.number ≡ (node_at ns (first_slot m)).parent.number
    from s b p End h l ne = absurd (omega arith)
    from s b p (Free i e rest) h l ne = rw (h.0.next, h.0.parent) (head s i (p + e) rest h.2 (rw h.0.next at ne))
    from s b p (Alloc i g e rest) h l ne = rw (h.0.next, h.0.parent) (head s i (p + e) rest h.3 (rw h.0.next at ne))
    from s b p (Seq i e inner rest) h l ne = rw (h.0.next, h.0.parent) (head s i (p + e) rest h.3 (rw h.0.next at ne))

-- The member that is to be opened next. Once it is, the marks show the set with the leaf's id, but for its parent.
pub record IsClimbing (ns : List Node) (old marks : List Bool) (leaf i : ℕ) : Type 0 where
  pub long : length marks ≡ length ns
  pub used : IsUsedAt ns i
  pub closed : is_open ns marks i ≡ false
  pub above : ((node_at ns i).parent.number ≡ no_slot → ⊥) → is_open ns marks (node_at ns i).parent.number ≡ false
  pub shown : (s : Sequence) (n : Numbered) (held : ℕ → Bool) → AreShownIn ns old held s n
      → held (leaf_id ns leaf) ≡ false
      → ShowsBut (node_at ns i).parent.number (is_open ns (set marks i true)) (and_id held (leaf_id ns leaf)) n
  pub around : (s : Sequence) (n : Numbered) → s.parent ≡ no_slot → Stands ns s n → IsCut s.width (erase n)
      → IsInside (box_of (node_at ns leaf).area) (box_of (node_at ns i).area)

inside-itself : (b : Box) → IsInside b b
inside-itself b = (omega arith, omega arith, omega arith, omega arith)

module _ (ns : List Node) (old : List Bool) (leaf : ℕ) (short : length ns ≤ 16777216)
    (s : Sequence) (n : Numbered) (held : ℕ → Bool) (is : AreShownIn ns old held s n)
    (new_id : held (leaf_id ns leaf) ≡ false) where
  member : (i : ℕ) → IsUsedAt ns i → 0 < tally i n
  member i u = omega (arith, is.stands.numbered i)

  none_in : tally no_slot n ≡ 0
  none_in = is.stands.numbered no_slot ∙ ap use_count (none-unused ns (omega arith))

  single : (x : ℕ) (m : Numbered) → tally x m ≡ use_count (node_at ns x).kind → tally x m ≤ 1
  single x m e = omega (arith, e, used-le (node_at ns x).kind)

  once_in : (x : ℕ) → tally x n ≤ 1
  once_in x = omega (arith, is.stands.numbered x, used-le (node_at ns x).kind)

  pub climb-starts : length old ≡ length ns → (node_at ns leaf).kind ≡ kind.Alloc → IsClimbing ns old old leaf leaf
  climb-starts long was =
      let used : IsUsedAt ns leaf = rw was (omega arith) in
      let as_held = leaf-open (is_open ns old) held ns leaf s no_slot 0 n was is.stands.standing is.shown (member leaf used) in
      let closed : is_open ns old leaf ≡ false = as_held ∙ new_id in
      let but = shows-but (is_open ns old) held no_slot n is.shown in
      let w = opened-set ns old leaf (omega (arith, long, used-inside ns leaf used)) in
      record {
        long = long;
        used = used;
        closed = closed;
        above = λ ne. parent-closed ns s n short is.top is.stands (is_open ns old) held no_slot leaf used closed ne ne but;
        shown = λ s2 n2 held2 x no. leaf-shown ns s2 n2 short x.top x.stands (is_open ns old) _ held2 leaf was w x.shown;
        around = λ s2 n2 t x c. inside-itself _;
      }

  module _ (marks : List Bool) (at : ℕ) (k : IsClimbing ns old marks leaf at) where
    abbrev o : ℕ → Bool
    o = is_open ns (set marks at true)

    opened : IsOpenedAt (is_open ns marks) o at
    opened = opened-set ns marks at (omega (arith, k.long, used-inside ns at k.used))

    none_open : o no_slot ≡ false
    none_open = none-closed ns (set marks at true) (length-set marks at true ∙ k.long) short

    -- The container of the opened member isn't open.
    shut : ((node_at ns at).parent.number ≡ no_slot → ⊥) → o (node_at ns at).parent.number ≡ false
    shut ne = opened.others _ (parent-apart ns s n short is.top is.stands at k.used) ∙ k.above ne

    module _ (low high : ℕ) (x : IsRunStart ns o low at) (y : IsRunEnd ns o at high) where
      all : (c : ℕ) × OpenLine ns o c low high
      all = line-on ns o x.line.0 y.line.0 low at high x.line.1 y.line.1

      first : o low ≡ true
      first = line-first ns o x.line.0 low at x.line.1 opened.there

      to_at : IsAlong (box_of (node_at ns low).area) (box_of (node_at ns at).area)
          × ((node_at ns at).parent.number ≡ (node_at ns low).parent.number)
      to_at = line-beyond ns o none_open at opened.there x.line.0 low s 0 n is.stands.standing (member low x.used) x.line.1

      to_high : IsAlong (box_of (node_at ns at).area) (box_of (node_at ns high).area)
          × ((node_at ns high).parent.number ≡ (node_at ns at).parent.number)
      to_high = line-beyond ns o none_open high y.last y.line.0 at s 0 n is.stands.standing (member at k.used) y.line.1

      abbrev run : Rectangle
      run = record { min = (node_at ns low).area.min; max = (node_at ns high).area.max }

      pub run-exact : run ≡ rectangle_of (box_of run)
      run-exact =
          let a = exact-at ns low s 0 n is.stands.standing (member low x.used) in
          let b = exact-at ns high s 0 n is.stands.standing (member high y.used) in
          ap₂ (λ (l h : Rectangle). record { min = l.min; max = h.max }) a b

      pub around-run : IsInside (box_of (node_at ns leaf).area) (box_of (node_at ns at).area)
          → IsInside (box_of (node_at ns leaf).area) (box_of run)
      around-run h = (
        omega (arith, h.0, to_at.0.min_x),
        omega (arith, h.1, to_at.0.min_y),
        omega (arith, h.2, to_high.0.max_x),
        omega (arith, h.3, to_high.0.max_y),
      )

      -- The run isn't all that a container holds.
      abbrev EndsHere : Type 0
      EndsHere = ((node_at ns low).previous.number ≡ no_slot → ⊥)
          ⊎ (((node_at ns high).next.number ≡ no_slot → ⊥) ⊎ ((node_at ns low).parent.number ≡ no_slot))

      abbrev with_leaf : ℕ → Bool
      with_leaf = and_id held (leaf_id ns leaf)

      abbrev parent : ℕ
      parent = (node_at ns at).parent.number

      -- A member beside the run isn't open.
      beside : (i : ℕ) → IsUsedAt ns i → o i ≡ false → (node_at ns i).parent.number ≡ parent
          → ShowsBut parent o with_leaf n → Shows o with_leaf n
      beside i u c e f =
          closed-shown ns s n short is.top is.stands o with_leaf i u c (λ ne. ap o e ∙ shut (λ z. ne (e ∙ z)))
          (subst (λ q. ShowsBut q o with_leaf n) (sym e) f)

      used_before : ((node_at ns low).previous.number ≡ no_slot → ⊥) → IsUsedAt ns (node_at ns low).previous.number
          × ((node_at ns (node_at ns low).previous.number).parent.number ≡ (node_at ns low).parent.number)
      used_before ne = elim (previous-used ns short (s, n, is.stands) low x.used) [
        | inl e ↦ absurd (ne e)
        | inr u ↦ (
          u.0,
          let ok : (node_at ns (node_at ns low).previous.number).next.number ≡ no_slot → ⊥ =
              λ z. none-open ns o none_open low (sym u.1 ∙ z) first in
              sym (rw u.1 at (sibling ns (node_at ns low).previous.number s 0 n is.stands.standing (member _ u.0) ok)),
        )
      ]

      used_after : ((node_at ns high).next.number ≡ no_slot → ⊥) → IsUsedAt ns (node_at ns high).next.number
      used_after ne = elim (next-used ns short (s, n, is.stands) high y.used) [ inl e ↦ absurd (ne e) | inr u ↦ u ]

      pub ends-shown : EndsHere → Shows o with_leaf n
      ends-shown (inl ne) =
          let u = used_before ne in
          beside _ u.0 x.before (u.1 ∙ sym to_at.1) (k.shown s n held is new_id)
      ends-shown (inr (inl ne)) =
          beside _ (used_after ne) y.after (sibling ns high s 0 n is.stands.standing (member high y.used) ne ∙ to_high.1)
          (k.shown s n held is new_id)
      ends-shown (inr (inr e)) =
          top-shown ns s n short is.top is.stands o with_leaf parent (to_at.1 ∙ e) (k.shown s n held is new_id)

      pub ends-run : EndsHere → IsRunIn o (box_of run) false s 0 n
      ends-run h =
          line-is_run ns o with_leaf none_open low high all.0 first x.before (rw (← to_at.1) shut) y.last y.after all.1
          false s no_slot 0 n (sym none_open) is.stands.standing none_in (ends-shown h) (member low x.used)

      -- The run is all that the container holds.
      pub climbs : (node_at ns low).previous.number ≡ no_slot → (node_at ns high).next.number ≡ no_slot
          → ((node_at ns low).parent.number ≡ no_slot → ⊥) → IsClimbing ns old (set marks at true) leaf (node_at ns low).parent.number
      climbs np nn ne =
          let some : parent ≡ no_slot → ⊥ = λ e. ne (sym to_at.1 ∙ e) in
          let was : (node_at ns parent).kind ≡ kind.Container = parent-container ns s n short is.top is.stands at k.used some in
          let used : IsUsedAt ns parent = rw was (omega arith) in
          let w = opened-set ns (set marks at true) parent (omega (arith, length-set marks at true, k.long, used-inside ns parent used)) in
          let f = k.shown s n held is new_id in
          let apart = parent-apart ns s n short is.top is.stands parent used in
          let up : IsClimbing ns old (set marks at true) leaf parent = record {
            long = length-set marks at true ∙ k.long;
            used = used;
            closed = shut some;
            above = λ nz. parent-closed ns s n short is.top is.stands o with_leaf parent parent used (shut some) nz apart f;
            shown = λ s2 n2 held2 x2 no2. climb-shown s2 n2 held2 x2 no2 np nn some was w;
            around = λ s2 n2 t x2 c. inside_trans _ _ _ (k.around s2 n2 t x2 c) (at-inside s2 n2 t x2 c some);
          } in
          subst (λ (i : ℕ). IsClimbing ns old (set marks at true) leaf i) to_at.1 up
        where
          at-inside : (s2 : Sequence) (n2 : Numbered) → s2.parent ≡ no_slot → Stands ns s2 n2 → IsCut s2.width (erase n2)
              → (parent ≡ no_slot → ⊥) → IsInside (box_of (node_at ns at).area) (box_of (node_at ns parent).area)
          at-inside s2 n2 t x2 c some =
              let once = (λ (v : ℕ). single v n2 (x2.numbered v)) in
              inside-parent ns at s2 no_slot 0 n2 x2.standing (omega (arith, x2.numbered at, k.used)) (λ e. some (e ∙ t)) once c

          climb-shown : (s2 : Sequence) (n2 : Numbered) (held2 : ℕ → Bool) → AreShownIn ns old held2 s2 n2
              → held2 (leaf_id ns leaf) ≡ false → (node_at ns low).previous.number ≡ no_slot
              → (node_at ns high).next.number ≡ no_slot → (parent ≡ no_slot → ⊥)
              → (node_at ns parent).kind ≡ kind.Container → IsOpenedAt o (is_open ns (set (set marks at true) parent true)) parent
              → ShowsBut (node_at ns parent).parent.number (is_open ns (set (set marks at true) parent true))
              (and_id held2 (leaf_id ns leaf)) n2
          climb-shown s2 n2 held2 x2 no2 np nn some was w =
              let whole = rw nn at (line-after ns o all.0 low high y.last all.1) in
              let each = (λ (i : ℕ) (u : IsUsedAt ns i) (e : (node_at ns i).parent.number ≡ parent).
              open-each ns o parent low i (suc all.0) whole (sym to_at.1) np e s no_slot 0 n is.stands.standing
              (λ q. some (q ∙ is.top)) once_in none_in (member low x.used) (member i u)) in
              container-shown ns s2 n2 short x2.top x2.stands o (is_open ns (set (set marks at true) parent true))
              (and_id held2 (leaf_id ns leaf)) parent was w each (k.shown s2 n2 held2 x2 no2)
