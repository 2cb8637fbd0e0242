-- Slots are taken and given back, and the nodes change under the lists.
use Rattle.std.proofs.Common.{ℕ, ◌+◌, ◌<◌, ◌≡◌, List, [], ◌∷◌, ◌++◌, refl, sym, ap, ◌∙◌, ◌⊎◌, inl, inr, arith, length, set, get_or-set_same}
use Rattle.std.proofs.Common.{get_or-set_other, length-set, subst, Bool, true, false}
use Rattle.std.proofs.lemmas.Bool.{cases_eq, cond-false, and_left, ne_eqb}
use Rattle.std.proofs.lemmas.List.{get_or_past, length-map, get_or_append_left, get_or_push, length_push, map-append}
use Rattle.atlas_store.specs.declared.slots.Slot.{Slot}
use Rattle.atlas_search.specs.declared.link.Link.{Link}
use Rattle.atlas_store.specs.declared.slots.Node.{Node}
use Rattle.atlas_store.specs.declared.slots.Ring.{Ring}
use Rattle.atlas_store.specs.declared.slots.NodeKind.{NodeKind}
use Rattle.atlas_store.specs.declared.slots.NodeKind.TheVariants as kind
use Rattle.atlas_model.specs.Choice.{Options}
use Rattle.atlas_store.specs.Slots.{nodes, rings, node_at, ring_at, use_count, blank_node, blank_ring, blank_slot, node_of, ring_of}
use Rattle.atlas_search.specs.Numbers.{no_slot, occurs, front}
use Rattle.atlas_store.specs.Slots.Lists.{AreFiled, Places, Line, filed, is_free}
use Rattle.atlas_search.specs.Tables.{head_of, is_used_at}
use Rattle.atlas_store.specs.Slots.Links.{with_claimed, with_count, with_mark, tail_of, renewed, given_back, IsTaken, TakesFirst}
use Rattle.atlas_search.proofs.Occurrences.{same-self, same-ne, ne-from_occurs}
use Rattle.atlas_store.proofs.StoreLemmas.LinkedLists.{IsLinked-kept, linked-none}
use Rattle.atlas_store.proofs.StoreLemmas.Lines.{Line-kept, Line-inside, Line-given}
use Rattle.atlas_store.proofs.StoreLemmas.FiledSlots.{unless-le, filed-use, with_mark-same, unless_detached, unless-detached}
use Rattle.atlas_store.proofs.StoreLemmas.FiledSlots.{unused_list-use, unused-nowhere, with_count-same, with_count-other, past-unused}

-- The lists stay in order where the nodes change: each slot is filed as before, is used or claimed as before, and keeps
-- its rectangle if it stands in a list.
pub AreFiled-nodes : (o : Options) (ns ms : List Node) (rs : List Ring) (heads : List Link) (unused : Link)
    (p : Places) (claimed' : ℕ → ℕ) (detached' : ℕ → Bool)
    → ((k i : ℕ) → unless_detached (detached' i) (filed o k (node_at ms i)) ≡ unless_detached (p.detached i) (filed o k (node_at ns i)))
    → ((i : ℕ) → i < length rs → claimed' i + use_count (node_at ms i).kind ≡ p.claimed i + use_count (node_at ns i).kind)
    → ((k i : ℕ) → k < 2704 → 0 < occurs i (p.free_lists k) → (node_at ms i).area ≡ (node_at ns i).area)
    → AreFiled o ns rs heads unused p
    → AreFiled o ms rs heads unused (record p { claimed = claimed'; detached = detached' })
AreFiled-nodes o ns ms rs heads unused p claimed' detached' files counts areas f =
    record {
      free = λ k l.
          let mine = f.free k l in
          record {
            links = IsLinked-kept ns ms rs rs k (head_of heads k) (p.free_lists k) (omega arith) (λ j _. refl) (λ j h. areas k j l h)
                mine.links;
            each = λ i. mine.each i ∙ sym (files k i);
          };
      line = f.line;
      begins = f.begins;
      each = λ i l. omega (arith, f.each i l, counts i l);
    }

-- A slot stands in no list: it is detached or not free.
abbrev pub IsOut : Bool → NodeKind → Type 0
IsOut detached k = (detached ≡ true) ⊎ (is_free k ≡ false)

-- A slot is as before for the lists, or was and is out of them.
abbrev pub StaysOrIsOut : (n m : Node) (detached detached' : Bool) → Type 0
StaysOrIsOut n m detached detached' =
    ((m.kind ≡ n.kind) × (m.area ≡ n.area) × (detached' ≡ detached)) ⊎ (IsOut detached n.kind × IsOut detached' m.kind)

filed-out : (o : Options) (k : ℕ) (n : Node) (detached : Bool) → IsOut detached n.kind
    → unless_detached detached (filed o k n) ≡ 0
filed-out o k n detached (inl e) = unless-detached detached (filed o k n) e
filed-out o k n detached (inr e) = grind (arith, cond-false, and_left, unless_detached)

filed-same : (o : Options) (k : ℕ) (n m : Node) → m.kind ≡ n.kind → m.area ≡ n.area → filed o k m ≡ filed o k n
filed-same o k n m e a = grind arith

-- The lists stay in order where the nodes of slots that are out of them change.
pub AreFiled-moved : (o : Options) (ns ms : List Node) (rs : List Ring) (heads : List Link) (unused : Link)
    (p : Places) (claimed' : ℕ → ℕ) (detached' : ℕ → Bool)
    → ((i : ℕ) → StaysOrIsOut (node_at ns i) (node_at ms i) (p.detached i) (detached' i))
    → ((i : ℕ) → i < length rs → claimed' i + use_count (node_at ms i).kind ≡ p.claimed i + use_count (node_at ns i).kind)
    → AreFiled o ns rs heads unused p
    → AreFiled o ms rs heads unused (record p { claimed = claimed'; detached = detached' })
AreFiled-moved o ns ms rs heads unused p claimed' detached' moved counts f =
    AreFiled-nodes o ns ms rs heads unused p claimed' detached' files counts areas f
  where
    files : (k i : ℕ) → unless_detached (detached' i) (filed o k (node_at ms i)) ≡ unless_detached (p.detached i) (filed o k (node_at ns i))
    files k i = elim (moved i) [
      | inl same ↦ rw (same.2, filed-same o k (node_at ns i) (node_at ms i) same.0 same.1) refl
      | inr out ↦ filed-out o k (node_at ms i) (detached' i) out.1 ∙ sym (filed-out o k (node_at ns i) (p.detached i) out.0)
    ]

    areas : (k i : ℕ) → k < 2704 → 0 < occurs i (p.free_lists k) → (node_at ms i).area ≡ (node_at ns i).area
    areas k i l h = elim (moved i) [
      | inl same ↦ same.1
      | inr out ↦ absurd (omega (arith, h, (f.free k l).each i, filed-out o k (node_at ns i) (p.detached i) out.0))
    ]

-- The nodes stay as they were where a new slot comes.
pub node_at-grown : (ns : List Node) (i : ℕ) → node_at (ns ++ blank_node ∷ []) i ≡ node_at ns i
node_at-grown ns i = grind (arith, get_or_append_left, get_or_push, get_or_past, length_push)

-- One more unused slot, which is claimed.
module _ (o : Options) (ns : List Node) (rs : List Ring) (heads : List Link) (unused : Link) (p : Places)
    (f : AreFiled o ns rs heads unused p) where
  ring_at-grown : (i : ℕ) → ring_at (rs ++ blank_ring ∷ []) i ≡ ring_at rs i
  ring_at-grown i = grind (arith, get_or_append_left, get_or_push, get_or_past, length_push)

  pub AreFiled-grown : length ns ≡ length rs
      → AreFiled o (ns ++ blank_node ∷ []) (rs ++ blank_ring ∷ []) heads unused (record p { claimed = with_count p.claimed (length rs) 1 })
  AreFiled-grown el =
      let longer = length_push rs blank_ring in
      let ms = ns ++ blank_node ∷ [] in
      let moved = AreFiled-nodes o ns ms rs heads unused p p.claimed p.detached
      (λ k i. ap (λ n. unless_detached (p.detached i) (filed o k n)) (node_at-grown ns i))
      (λ i l. ap (λ (n : Node). p.claimed i + use_count n.kind) (node_at-grown ns i))
      (λ k i l h. ap (λ (n : Node). n.area) (node_at-grown ns i)) f in
      record {
        free = λ k l. let mine = moved.free k l in record {
          links = IsLinked-kept ms ms rs (rs ++ blank_ring ∷ []) k (head_of heads k)
              (p.free_lists k) (omega arith) (λ j h. ring_at-grown j) (λ j _. refl) mine.links;
          each = mine.each;
        };
        line = Line-kept rs (rs ++ blank_ring ∷ []) p.unused_list (omega arith) (λ j h. ring_at-grown j) f.line;
        begins = f.begins;
        each = grind (arith, node_at-grown, past-unused, with_count-same, Line-inside, with_count-other);
      }

  -- The first unused slot is taken.
  pub AreFiled-taken : (x : ℕ) (rest : List ℕ) (next : Link) → p.unused_list ≡ x ∷ rest → next ≡ (ring_at rs x).right
      → AreFiled o ns rs heads next (record p { unused_list = rest; claimed = with_count p.claimed x 1 })
  AreFiled-taken x rest next es en = grind (arith, with_count-same, same-self, with_count-other, same-ne)

  -- A claimed slot becomes the first spare one.
  pub AreFiled-given : (ts : List Ring) (i : ℕ) (ring : Ring) (next : Link) → i < length rs → 0 < p.claimed i
      → ts ≡ set rs i ring → ring.right ≡ unused → next.number ≡ i → AreFiled o ns ts heads next (given_back p i)
  AreFiled-given ts i ring next li hi et er en =
      let lt : length ts ≡ length rs = rw et (length-set rs i ring) in
      let now = f.each i li in
      let unused_now : use_count (node_at ns i).kind ≡ 0 = omega arith in
      let same_at : (j : ℕ) → (j ≡ i → ⊥) → ring_at ts j ≡ ring_at rs j = (λ j ne. rw et (get_or-set_other rs i j ring blank_ring ne)) in
      let none : occurs i p.unused_list ≡ 0 = omega arith in
      record {
        free = λ k l. let mine = f.free k l in record {
          links = IsLinked-kept ns ns rs ts k (head_of heads k) (p.free_lists k) (omega arith)
              (λ j h. same_at j (ne-from_occurs i j (p.free_lists k) (unused-nowhere o ns rs heads unused p f k i l unused_now) h))
              (λ j _. refl) mine.links;
          each = mine.each;
        };
        line = Line-given rs ts i ring li et p.unused_list f.line (ap (λ (l : Link). l.number) er ∙ f.begins) none;
        begins = en;
        each = grind (arith, with_count-same, same-self, with_count-other, same-ne);
      }

unused_kind : (k : NodeKind) → use_count k ≡ 0 → k ≡ kind.Unused
unused_kind k e = grind arith

nil-from_inside : (rs : List Ring) (unused_list : List ℕ) → length rs < 4294967295 → Line rs unused_list
    → front unused_list ≡ no_slot → unused_list ≡ []
nil-from_inside rs [] short l e = refl
nil-from_inside rs (x ∷ xs) short l e = absurd (omega (arith, l.0))

-- No slot is unused: a new one is taken.
taken-fresh : (o : Options) (old new : List Slot) (slot : Slot) (heads : List Link) (unused : Link) (at : ℕ)
    → length old < 4294967295 → unused.number ≡ no_slot → at ≡ length old → new ≡ old ++ slot ∷ [] → slot ≡ blank_slot
    → (p : Places) → AreFiled o (nodes old) (rings old) heads unused p → IsTaken o old new heads unused p at
taken-fresh o old new slot heads unused at short none ea en es p f =
    let ln : length (nodes old) ≡ length old = length-map old _ in
    let lr : length (rings old) ≡ length old = length-map old _ in
    let last : new ≡ old ++ blank_slot ∷ [] = en ∙ ap (λ s. old ++ s ∷ []) es in
    let ns : nodes new ≡ nodes old ++ blank_node ∷ [] = ap nodes last ∙ map-append node_of old (blank_slot ∷ []) in
    let rs : rings new ≡ rings old ++ blank_ring ∷ [] = ap rings last ∙ map-append ring_of old (blank_slot ∷ []) in
    let empty : p.unused_list ≡ [] = nil-from_inside (rings old) p.unused_list (omega arith) f.line (sym f.begins ∙ none) in
    let same_rest : tail_of p.unused_list ≡ p.unused_list = ap tail_of empty ∙ sym empty in
    let grown = AreFiled-grown o (nodes old) (rings old) heads unused p f (ln ∙ sym lr) in
    let P : List Node → List Ring → List ℕ → ℕ → Type 0 = λ ms ts ys n. AreFiled o ms ts heads unused
    (record p { unused_list = ys; claimed = with_count p.claimed n 1 }) in
    let at_node : (i : ℕ) → node_at (nodes new) i ≡ node_at (nodes old) i = (λ i. rw ns (node_at-grown (nodes old) i)) in
    let blank : node_at (nodes old) at ≡ blank_node = get_or_past (nodes old) at blank_node (omega arith) in
    record {
      filed = rw (ns, rs, same_rest, ea, ← lr) grown;
      inside = omega (arith, ap length last, length_push old blank_slot);
      was_unused = ap (λ (n : Node). n.kind) blank;
      is_unused = ap (λ (n : Node). n.kind) (at_node at ∙ blank);
      apart = λ k l h e. absurd (omega arith);
    }

-- The first unused slot is taken.
taken-again : (o : Options) (old new : List Slot) (heads : List Link) (unused next : Link)
    → (unused.number ≡ no_slot → ⊥) → next ≡ (ring_at (rings old) unused.number).right
    → nodes new ≡ set (nodes old) unused.number (renewed (node_at (nodes old) unused.number)) → rings new ≡ rings old
    → (p : Places) → AreFiled o (nodes old) (rings old) heads unused p → IsTaken o old new heads next p unused.number
taken-again o old new heads unused next some en_next en er p f =
    record {
      filed = filed;
      inside = omega (arith, inside, ap length er, length-map new ring_of);
      was_unused = unused_kind _ spare.0;
      is_unused = (stays unused.number).0 ∙ unused_kind _ spare.0;
      apart = λ k l h e. omega (arith, h, spare.1, ap p.claimed e);
    }
  where
    begun-by : (xs : List ℕ) → (front xs ≡ no_slot → ⊥) → (rest : List ℕ) × (xs ≡ front xs ∷ rest)
    begun-by [] ne = absurd (ne refl)
    begun-by (x ∷ xs) ne = (xs, refl)

    begun : (rest : List ℕ) × (p.unused_list ≡ front p.unused_list ∷ rest)
    begun = begun-by p.unused_list (λ e. some (f.begins ∙ e))

    first : p.unused_list ≡ unused.number ∷ begun.0
    first = begun.1 ∙ ap (λ x. x ∷ begun.0) (sym f.begins)

    on : 0 < occurs unused.number p.unused_list
    on = omega (arith, ap (occurs unused.number) first, same-self unused.number)

    spare : (use_count (node_at (nodes old) unused.number).kind ≡ 0) × (p.claimed unused.number ≡ 0)
    spare = unused_list-use o (nodes old) (rings old) heads unused p f unused.number on

    inside : unused.number < length (rings old)
    inside = Line-inside (rings old) unused.number p.unused_list f.line on

    now : node_at (nodes new) unused.number ≡ renewed (node_at (nodes old) unused.number)
    now = ap (λ ms. node_at ms unused.number) en
        ∙ get_or-set_same (nodes old) unused.number (renewed (node_at (nodes old) unused.number)) blank_node
        (omega (arith, inside, length-map old ring_of, length-map old node_of))

    stays : (i : ℕ) → ((node_at (nodes new) i).kind ≡ (node_at (nodes old) i).kind) ×
        ((node_at (nodes new) i).area ≡ (node_at (nodes old) i).area) × (p.detached i ≡ p.detached i)
    stays i = elim (cases_eq i unused.number) [
      | inl e ↦
          subst (λ k. ((node_at (nodes new) k).kind ≡ (node_at (nodes old) k).kind) ×
          ((node_at (nodes new) k).area ≡ (node_at (nodes old) k).area) × (p.detached k ≡ p.detached k)) (sym e)
          (ap (λ (n : Node). n.kind) now, ap (λ (n : Node). n.area) now, refl)
      | inr ne ↦ (
          let other : node_at (nodes new) i ≡ node_at (nodes old) i = ap (λ ms. node_at ms i) en ∙
          get_or-set_other (nodes old) unused.number i (renewed (node_at (nodes old) unused.number)) blank_node ne in
          (ap (λ (n : Node). n.kind) other, ap (λ (n : Node). n.area) other, refl))
    ]

    filed : AreFiled o (nodes new) (rings new) heads next (with_claimed p unused.number)
    filed =
        let taken = AreFiled-taken o (nodes old) (rings old) heads unused p f unused.number begun.0 next first en_next in
        let moved = AreFiled-moved o (nodes old) (nodes new) (rings old) heads next _ _ p.detached (λ i. inl (stays i))
        (λ i l. ap (λ k. with_count p.claimed unused.number 1 i + use_count k) (stays i).0) taken in
        rw (er, ap tail_of first) moved

-- The same where the slots are seen through another name.
taken-again_by : (o : Options) (old items ys new : List Slot) (heads : List Link) (unused : Link) (ring : Ring)
    → items ≡ old → new ≡ ys → (unused.number ≡ no_slot → ⊥) → ring ≡ ring_at (rings old) unused.number
    → nodes ys ≡ set (nodes items) unused.number (renewed (node_at (nodes items) unused.number))
    → rings ys ≡ rings items → (p : Places) → AreFiled o (nodes old) (rings old) heads unused p
    → IsTaken o old new heads ring.right p unused.number
taken-again_by o old items ys new heads unused ring ei ey some eg em er p f =
    grind (arith, taken-again o old new heads unused ring.right some)

-- What is taken is the first of the unused slots, or else a new one.
pub takes-fresh : (old new : List Slot) (slot : Slot) (unused at : Link) → length old < 4294967295
    → unused.number ≡ no_slot
    → at.number ≡ length old → new ≡ old ++ slot ∷ [] → slot ≡ blank_slot → TakesFirst old new unused unused at
takes-fresh old new slot unused at short none ea en es =
    let last : new ≡ old ++ blank_slot ∷ [] = en ∙ ap (λ s. old ++ s ∷ []) es in
    let ns : nodes new ≡ nodes old ++ blank_node ∷ [] =
    ap nodes last ∙ map-append node_of old (blank_slot ∷ []) in
    let same : (k : ℕ) → node_at (nodes new) k ≡ node_at (nodes old) k = λ k. rw ns (node_at-grown (nodes old) k) in
    record {
      taken = λ o heads. taken-fresh o old new slot heads unused at.number short none ea en es;
      others = λ k _. same k;
      again = λ some. absurd (some none);
      fresh = λ _. (ea, last);
      once = λ f. record {
        none = f.none;
        generations = λ k. ap (λ (n : Node). n.generation) (same k) ∙ f.generations k;
      };
    }

pub takes-again : (old items ys new : List Slot) (unused : Link) (ring : Ring) → items ≡ old → new ≡ ys
    → (unused.number ≡ no_slot → ⊥) → ring ≡ ring_at (rings old) unused.number
    → nodes ys ≡ set (nodes items) unused.number (renewed (node_at (nodes items) unused.number))
    → rings ys ≡ rings items
    → TakesFirst old new unused ring.right unused
takes-again old items ys new unused ring ei ey some eg em er =
    let at = unused.number in
    let now : Node = renewed (node_at (nodes old) at) in
    let en : nodes new ≡ set (nodes old) at now = rw (ey, ← ei) em in
    record {
      taken = λ o heads. taken-again_by o old items ys new heads unused ring ei ey some eg em er;
      others = λ k ne. rw en (get_or-set_other (nodes old) at k now blank_node ne);
      again = λ _. (refl, en);
      fresh = λ none. absurd (some none);
      once = λ f. absurd (some f.none);
    }

pub given-by : (o : Options) (old new : List Slot) (heads : List Link) (unused at : Link) (ring : Ring)
    → at.number < length old → rings new ≡ set (rings old) at.number ring → nodes new ≡ nodes old → ring.right ≡ unused
    → (p : Places) → AreFiled o (nodes old) (rings old) heads unused p → 0 < p.claimed at.number
    → AreFiled o (nodes new) (rings new) heads at (given_back p at.number)
given-by o old new heads unused at ring li er en es p f h =
    let inside : at.number < length (rings old) = rw (length-map old ring_of) li in
    rw en (AreFiled-given o (nodes old) (rings old) heads unused p f (rings new) at.number ring at inside h er es refl)

-- Slot 0 is detached, and nothing else stands anywhere.
abbrev pub one_detached : Places
one_detached = record { unused_list = []; free_lists = λ _. []; claimed = λ _. 0; detached = with_mark (λ _. false) 0 true }

pub none-used : (heads : List Link) (k : ℕ) → is_used_at heads k ≡ false → (head_of heads k).number ≡ no_slot
none-used heads k e = grind (arith, ne_eqb)

-- One free slot, which is detached: the lists are empty.
pub AreFiled-one : (o : Options) (n : Node) (ring : Ring) (heads : List Link) (unused : Link) → n.kind ≡ kind.Free
    → ((k : ℕ) → is_used_at heads k ≡ false) → unused.number ≡ no_slot
    → AreFiled o (n ∷ []) (ring ∷ []) heads unused one_detached
AreFiled-one o n ring heads unused e empty none =
    grind (arith, linked-none, none-used, unless-detached, with_mark-same, unless-le, filed-use, past-unused)

-- Slot i changes what it is used for, and is out of the lists before and after; any other keeps its use.
pub record Changes (ns ms : List Node) (i : ℕ) (detached detached' : Bool) (claimed claimed' : ℕ) : Type 0 where
  pub out_before : IsOut detached (node_at ns i).kind
  pub out_after : IsOut detached' (node_at ms i).kind
  pub counts : claimed' + use_count (node_at ms i).kind ≡ claimed + use_count (node_at ns i).kind
