-- An entry joins a heap.
use Rattle.std.proofs.Common.{◌≡◌, ◌≢◌, ℕ, ◌<◌, ◌≤◌, false, List, length, ap, sym, ◌∙◌, subst, inl, inr, arith}
use Rattle.std.proofs.lemmas.Bool.{cases_eq}
use Rattle.atlas_search.specs.declared.cells.Cell.{Cell}
use Rattle.atlas_model.specs.Boxes.{Sides}
use Rattle.atlas_model.specs.Choice.{ComesFirst}
use Rattle.atlas_search.specs.Forks.{IsAlike, IsRouted, Reroutes, cell_of}
use Rattle.atlas_search.specs.Numbers.{occurs, same, no_slot}
use Rattle.atlas_search.specs.Rectangles.{IsSolid}
use Rattle.atlas_search.proofs.Occurrences.{same-self, same-ne}
use Rattle.atlas_search.specs.HeapCalls.{CanPush, CanSort, HasPushed, HasSorted, IsRelinked, IsPut, KeepsAreas}
use Rattle.atlas_search.specs.Heaps.{Heap, IsHeap, members}
use Rattle.atlas_search.specs.Heaps.Heap.{Top}
use Rattle.atlas_search.specs.Items.{Item, forked, item_at, item_box, item_sides, linked}
use Rattle.atlas_search.proofs.HeapLemmas.Alone.{alone, alone-has, alone-is}
use Rattle.atlas_search.proofs.HeapLemmas.Frames.{heap-frame}
use Rattle.atlas_search.proofs.HeapLemmas.Hanging.{plain-areas, plain-boxes, plain-then}
use Rattle.atlas_search.proofs.HeapLemmas.Joining.{put-areas}
use Rattle.atlas_search.proofs.HeapLemmas.Melding.{linked-areas}
use Rattle.atlas_search.proofs.HeapLemmas.Places.{IsPlaced, IsRehung, IsWith, place-of}
use Rattle.atlas_search.proofs.SearchLemmas.Cells.{cell-has, cell-is}
use Rattle.atlas_search.proofs.SearchLemmas.Heaps.{heap-inside, none-of, occurs-top}
use Rattle.atlas_search.proofs.SearchLemmas.Routes.{alike-routed, routed-alike, sides-same}

-- It is sorted in.
module _ (es : List Item) (tag top near at : ℕ) (h : Heap) (can : CanPush es tag top near at h) where
  pub push-sorts : (c : Cell) → c ≡ cell_of (item_sides (item_at es at)) → (item_sides (item_at es at)).width ≤ 2147483647
      → (item_sides (item_at es at)).height ≤ 2147483647 → CanSort es c top at h
  push-sorts c is w t =
      let e = can.solid.nonempty in
      subst (λ (d : Cell). CanSort es d top at h) (sym is) (record {
        short = can.sound.short;
        cell = cell-is (item_sides (item_at es at)) (omega (arith, e.0), omega (arith, e.1)) w t;
        under = tag;
        heap = can.sound.heap;
        once = λ k. elim (cases_eq k at) [
          | inl e ↦ omega (arith, ap (λ n. same n at) e, same-self at, ap (λ n. occurs n (members h)) e, can.apart)
          | inr ne ↦ omega (arith, same-ne k at ne, can.sound.once k)
        ];
        inside = can.inside;
        exact = λ k l. elim (cases_eq k at) [
          | inl e ↦ subst (λ n. IsSolid (item_at es n).area) (sym e) can.solid
          | inr ne ↦ can.sound.exact k (omega (arith, l, same-ne k at ne))
        ];
        routed = can.routed;
        within = cell-has (item_sides (item_at es at)) w t;
      })

  pub sorted-pushed : (fs : List Item) (first : ℕ) (c : Cell) → c ≡ cell_of (item_sides (item_at es at)) → HasSorted es fs c tag first at h
      → HasPushed es fs tag first at h
  sorted-pushed fs first c is s = record {
    grown = s.both;
    heap = s.heap;
    has = s.has;
    others = s.others;
    routed = subst (λ (d : Cell). IsRouted fs d s.both) is s.routed;
  }

  pub near-inside : near ≢ no_slot → near < length es
  near-inside some = elim can.near [ inl e ↦ absurd (some e) | inr l ↦ heap-inside es tag top h can.sound.heap near l ]

-- It hangs to the left below an entry with nothing there that comes before it.
module _ (es fs gs : List Item) (tag top near at : ℕ) (h : Heap) (can : CanPush es tag top near at h) (some : near ≢ no_slot)
    (free : (item_at es near).left ≡ no_slot) (first : ComesFirst (item_box (item_at es near)) (item_box (item_at es at)))
    (fork : (item_at es near).is_fork ≡ false) (alike : item_sides (item_at es near) ≡ item_sides (item_at es at))
    (is : IsPut es fs at near no_slot no_slot false)
    (then : IsRelinked fs gs near (item_at fs near).up at (item_at fs near).right) where
  near-in : 0 < occurs near (members h)
  near-in = elim can.near [ inl e ↦ absurd (some e) | inr l ↦ l ]

  p : IsPlaced es tag top h near
  p = place-of es tag top h can.sound.heap near near-in

  apart : near ≢ at
  apart e = omega (arith, near-in, can.apart, ap (λ n. occurs n (members h)) e)

  areas : KeepsAreas es gs
  areas = plain-then es fs gs (put-areas es fs at near no_slot no_slot false is)
      (plain-areas fs gs (linked-areas fs gs near (item_at fs near).up at (item_at fs near).right then))

  near-is : item_at fs near ≡ item_at es near
  near-is = is.others near apart

  at-is : item_at gs at ≡ forked (linked (item_at es at) near no_slot no_slot) false
  at-is = then.others at (λ e. apart (sym e)) ∙ is.here

  kept : (k : ℕ) → k ≢ near → k ≢ at → item_at gs k ≡ item_at es k
  kept k ne far = then.others k ne ∙ is.others k far

  out-of : (k : ℕ) → 0 < occurs k (members h) → k ≢ at
  out-of k l e = omega (arith, l, can.apart, ap (λ n. occurs n (members h)) e)

  rehung : IsRehung es gs near p.others (alone at) p.right
  rehung = record {
    long = areas.long;
    boxes = plain-boxes es gs areas;
    kept = λ k l. kept k
        (λ e. omega (arith, l, p.counts k, can.sound.once k, ap (λ n. same n near) e, same-self near))
        (out-of k (omega (arith, l, p.counts k)));
    up = ap (λ (t : Item). t.up) then.here ∙ ap (λ (t : Item). t.up) near-is;
    above_left = λ j l. elim (cases_eq j at) [
      | inl e ↦ subst (λ n. ComesFirst (item_box (item_at es near)) (item_box (item_at es n))) (sym e) first
      | inr ne ↦ absurd (omega (arith, l, alone-has j at, same-ne j at ne))
    ];
    above_right = p.above_right;
    low = subst (λ n. IsHeap gs near n (alone at)) (sym (ap (λ (t : Item). t.left) then.here))
        (alone-is gs (forked (item_at es at) false) near at (omega (arith, can.inside, areas.long)) at-is);
    high = subst (λ n. IsHeap gs near n p.right) (sym (ap (λ (t : Item). t.right) then.here ∙ ap (λ (t : Item). t.right) near-is))
        (heap-frame es gs near (item_at es near).right p.right areas.long
        (λ k l. kept k
        (λ e. omega (arith, l, p.counts k, can.sound.once k, ap (λ n. same n near) e, same-self near))
        (out-of k (omega (arith, l, p.counts k)))) p.high);
  }

  w : IsWith gs tag top near p.others (alone at) p.right
  w = p.put gs (alone at) p.right rehung

  sides : (k : ℕ) → item_sides (item_at gs k) ≡ item_sides (item_at es k)
  sides k = sides-same (item_at es k) (item_at gs k) (areas.areas k)

  near-gs : (item_at gs near).is_fork ≡ false
  near-gs = ap (λ (t : Item). t.is_fork) then.here ∙ ap (λ (t : Item). t.is_fork) near-is ∙ fork

  -- Below it all have its size, the new one too.
  joins : (s : Sides) → IsAlike es s (Top near p.left p.right) → IsAlike gs s (Top near (alone at) p.right)
  joins s was j l =
      let top = was near (omega (arith, same-self near, occurs-top near near p.left p.right)) in
      elim (cases_eq j near) [
        | inl e ↦ (ap (λ n. item_sides (item_at gs n)) e ∙ sides near ∙ top.0, ap (λ n. (item_at gs n).is_fork) e ∙ near-gs)
        | inr ne ↦ elim (cases_eq j at) [
          | inl e ↦ (
            ap (λ n. item_sides (item_at gs n)) e ∙ sides at ∙ sym alike ∙ top.0,
            ap (λ n. (item_at gs n).is_fork) e ∙ ap (λ (t : Item). t.is_fork) at-is,
          )
          | inr far ↦
              let q = was j (omega (
                arith,
                l,
                occurs-top j near (alone at) p.right,
                same-ne j near ne,
                alone-has j at,
                same-ne j at far,
                occurs-top j near p.left p.right,
              )) in
              (sides j ∙ q.0, ap (λ (t : Item). t.is_fork) (kept j ne far) ∙ q.1)
        ]
      ]

  routes : Reroutes es gs h w.it
  unfolding w
  routes = p.routes gs (alone at) p.right rehung (record {
    routed = λ d was.
        alike-routed gs d (item_sides (item_at es near)) (Top near (alone at) p.right) was.0
        (joins (item_sides (item_at es near)) (routed-alike es d near p.left p.right was fork));
    alike = joins;
  })

  pub pushed-near : HasPushed es gs tag top at h
  pushed-near = record {
    grown = w.it;
    heap = w.heap;
    has = λ k.
        let none = none-of es near (item_at es near).left p.left can.sound.short p.low free in
        omega (arith, w.counts k, p.counts k, alone-has k at, ap (λ (q : Heap). occurs k (members q)) none);
    others = λ k ne none. kept k (λ e. omega (arith, none, near-in, ap (λ n. occurs n (members h)) e)) ne;
    routed = routes.routed (cell_of (item_sides (item_at es at))) can.routed;
  }
