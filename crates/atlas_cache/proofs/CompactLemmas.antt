-- Entries that move from the last page to pages before it.
use Rattle.std.proofs.Common.{ℕ, ℤ, ◌+◌, ◌≡◌, inl, inr, Bool, true, false, cond, List, [], ◌∷◌, ◌++◌, map}
use Rattle.std.proofs.Common.{None, Some, option_map, IsSome, refl, sym, ap, ◌∙◌, subst, subst₂, arith}
use Rattle.std.proofs.lemmas.Bool.{cases_Bool, false≢true}
use Rattle.std.proofs.lemmas.Bool.Decides.{eqb_tells}
use Rattle.std.proofs.lemmas.List.Sums.{sum_by-append}
use Rattle.std.specs.Cmp.{IsEquivalence}
use Rattle.std.specs.List.{AllByRecursion}
use Rattle.guillotiere.specs.declared.Rectangle.{Rectangle}
use Rattle.guillotiere.specs.Boxes.{box_sides, Sides}
use Rattle.guillotiere.specs.Pages.{page_sizes, AddsBoxOn, LeavesNoBoxOn}
use Rattle.guillotiere.specs.Pixels.{box_of}
use Rattle.guillotiere.specs.Replies.{IsExact}
use Rattle.guillotiere.specs.Stored.{AtlasValue}
use Rattle.atlas_entries.specs.declared.entries.Entry.{Entry}
use Rattle.atlas_entries.specs.Entries.{entry_at, is_blank, lying, moved as with_place}
use Rattle.atlas_entries.proofs.AppendedLists.{each-append, each-here, each-left, each-right}
use Rattle.atlas_cache.specs.Caches.{entries_of, entry_for, shown, FramesFall, HaveOwnKeys, HoldsEntries, IsBordered}
use Rattle.atlas_cache.specs.Changes.{all_changed, changed, Picture}
use Rattle.atlas_cache.specs.Compacting.{pixels_moved, pixels_of, told_move, MoveAhead, MovesAhead}
use Rattle.atlas_cache.specs.Relocating.{keys_of}
use Rattle.atlas_cache.proofs.BlankLemmas.{lying-append, lying-here}
use Rattle.atlas_cache.proofs.HoldingLemmas.{holders-append, joined, left, to_front, IsLiveOn}
use Rattle.atlas_cache.proofs.KeyLemmas.{gone, here}

module _ {K : Type 0} where
  -- An entry goes back to its place in the order.
  from_front : (pages : List AtlasValue) (xs : List (Entry K)) (e : Entry K) (ys : List (Entry K))
      → HoldsEntries pages (e ∷ (xs ++ ys)) → HoldsEntries pages (xs ++ e ∷ ys)
  from_front pages xs e ys held = record {
    live = each-append (IsLiveOn pages) xs (e ∷ ys) (each-left (IsLiveOn pages) xs ys held.live.1)
        (held.live.0, each-right (IsLiveOn pages) xs ys held.live.1);
    once = λ page id.
        omega (arith, held.once page id, holders-append page id xs (e ∷ ys), holders-append page id xs ys);
    known = λ page id r is_r.
        omega (arith, held.known page id r is_r, holders-append page id xs (e ∷ ys), holders-append page id xs ys);
  }

  -- An entry that is found by its number gets another place.
  pub record Replaced (e f : Entry K) (es others : List (Entry K)) : Type 0 where
    pub newer : List (Entry K)
    pub older : List (Entry K)
    pub was : es ≡ newer ++ e ∷ older
    pub is : others ≡ newer ++ f ∷ older

  pub replaced : (n page id : ℕ) (r : Rectangle) (es : List (ℕ × Entry K)) (e : Entry K) → entry_at n es ≡ Some e
      → Replaced e (record e { page = page; id = id; rectangle = r }) (entries_of es) (entries_of (with_place n page id r es))
  replaced n page id r [] e at = absurd (let none : None ≡ Some e = at in cc)
  replaced n page id r (x ∷ es) e at = elim (eqb_tells n x.0) [
    | inl same ↦
        let here = rw same.0 at at in
        let it : x.1 ≡ e = cc in
        record {
          newer = [];
          older = entries_of es;
          was = ap (λ y. y ∷ entries_of es) it;
          is = rw same.0 (ap (λ (y : Entry K). record y { page = page; id = id; rectangle = r } ∷ entries_of es) it);
        }
    | inr other ↦
        let there = rw other.0 at at in
        let more = replaced n page id r es e there in
        record {
          newer = x.1 ∷ more.newer;
          older = more.older;
          was = ap (λ ys. x.1 ∷ ys) more.was;
          is = rw other.0 (ap (λ ys. x.1 ∷ ys) more.is);
        }
  ]

  -- One entry is in the place of another, which has its rectangle on another page.
  pub moved_held : (pages mid new : List AtlasValue) (e f : Entry K) (es others : List (Entry K)) (p : Replaced e f es others)
      → is_blank e ≡ false → is_blank f ≡ false
      → AddsBoxOn pages mid f.page f.id f.rectangle → LeavesNoBoxOn mid new e.page e.id
      → HoldsEntries pages (lying es) → HoldsEntries new (lying others)
  moved_held pages mid new e f es others p lies_e lies_f adds leaves held =
      let was : lying es ≡ lying p.newer ++ e ∷ lying p.older =
      ap lying p.was ∙ lying-append p.newer (e ∷ p.older) ∙ ap (λ ys. lying p.newer ++ ys) (lying-here e p.older lies_e) in
      let same : lying others ≡ lying p.newer ++ f ∷ lying p.older =
      ap lying p.is ∙ lying-append p.newer (f ∷ p.older) ∙ ap (λ ys. lying p.newer ++ ys) (lying-here f p.older lies_f) in
      let more = joined pages mid f adds (lying es) held in
      let front = to_front mid (f ∷ lying p.newer) e (lying p.older) (rw was at more) in
      let there = left mid new e leaves (f ∷ (lying p.newer ++ lying p.older)) front in
      subst (HoldsEntries new) (sym same) (from_front new (lying p.newer) f (lying p.older) there)

  pub each_moved : (P : Entry K → Type 0) (xs : List (Entry K)) (e f : Entry K) (ys : List (Entry K))
      → AllByRecursion P (xs ++ e ∷ ys) → P f → AllByRecursion P (xs ++ f ∷ ys)
  each_moved P xs e f ys all here =
      each-append P xs (f ∷ ys) (each-left P xs (e ∷ ys) all) (here, (each-right P xs (e ∷ ys) all).1)

  -- A rectangle of the same sides is as large.
  pub moved_bordered : (padding : ℤ) (e f : Entry K) → f.size ≡ e.size → is_blank e ≡ false → is_blank f ≡ false
      → IsExact f.rectangle → box_sides (box_of f.rectangle) ≡ box_sides (box_of e.rectangle) → IsBordered padding e
      → IsBordered padding f
  moved_bordered padding e f size lies_e lies_f exact sides was =
      let own = was.large lies_e in
      let width = ap (λ (s : Sides). s.width) sides in
      let height = ap (λ (s : Sides). s.height) sides in
      record {
        large = λ _. rw size (record {
          exact = exact;
          least = own.least;
          positive = own.positive;
          wide = omega (arith, width, own.wide, own.positive.0);
          high = omega (arith, height, own.high, own.positive.1);
        });
        empty = λ blank. absurd (false≢true (sym lies_f ∙ blank));
      }

  falls_moved : (frame : ℕ) (xs : List (Entry K)) (e f : Entry K) (ys : List (Entry K)) → f.frame ≡ e.frame
      → FramesFall frame (xs ++ e ∷ ys) → FramesFall frame (xs ++ f ∷ ys)
  falls_moved frame [] e f ys same h = (rw same h.0, rw same h.1)
  falls_moved frame (x ∷ xs) e f ys same h = (h.0, falls_moved x.frame xs e f ys same h.1)

  keys_moved : (xs : List (Entry K)) (e f : Entry K) (ys : List (Entry K)) → f.key ≡ e.key
      → keys_of (xs ++ f ∷ ys) ≡ keys_of (xs ++ e ∷ ys)
  keys_moved [] e f ys named = ap (λ k. k ∷ keys_of ys) named
  keys_moved (x ∷ xs) e f ys named = ap (λ ks. x.key ∷ ks) (keys_moved xs e f ys named)

  module _ (last : ℕ) where
    -- One more entry moves.
    pub chain_more : (moves : List (Entry K × Entry K)) (e f : Entry K) (pages mid end : List AtlasValue)
        (es next others : List (Entry K))
        → MoveAhead last moves pages mid es next → MovesAhead last e f mid end next others
        → MoveAhead last (moves ++ (e, f) ∷ []) pages end es others
    chain_more [] e f pages mid end es next others c one = (
      end,
      others,
      subst₂ (λ ps xs. MovesAhead last e f ps end xs others) (sym c.0) (sym c.1) one,
      (refl, refl),
    )
    chain_more (m ∷ ms) e f pages mid end es next others c one =
        (c.0, c.1, c.2, chain_more ms e f c.0 mid end c.1 next others c.3 one)

    pub chain_sizes : (moves : List (Entry K × Entry K)) (pages end : List AtlasValue) (es others : List (Entry K))
        → MoveAhead last moves pages end es others → page_sizes end ≡ page_sizes pages
    chain_sizes [] pages end es others c = ap page_sizes (sym c.0)
    chain_sizes (m ∷ ms) pages end es others c = chain_sizes ms c.0 end c.1 others c.3 ∙ c.2.sizes

    pub chain_frames : (frame : ℕ) (moves : List (Entry K × Entry K)) (pages end : List AtlasValue) (es others : List (Entry K))
        → MoveAhead last moves pages end es others → FramesFall frame es → FramesFall frame others
    chain_frames frame [] pages end es others c falls = subst (FramesFall frame) c.1 falls
    chain_frames frame (m ∷ ms) pages end es others c falls =
        let one = c.2 in
        let next = falls_moved frame one.newer m.0 m.1 one.older (ap (λ (x : Entry K). x.frame) one.same) (rw one.was at falls) in
        chain_frames frame ms c.0 end c.1 others c.3 (rw one.is next)

    pub chain_keys : (moves : List (Entry K × Entry K)) (pages end : List AtlasValue) (es others : List (Entry K))
        → MoveAhead last moves pages end es others → keys_of others ≡ keys_of es
    chain_keys [] pages end es others c = ap keys_of (sym c.1)
    chain_keys (m ∷ ms) pages end es others c =
        let one = c.2 in
        let named = ap (λ (x : Entry K). x.key) one.same in
        chain_keys ms c.0 end c.1 others c.3
        ∙ ap keys_of one.is ∙ keys_moved one.newer m.0 m.1 one.older named ∙ ap keys_of (sym one.was)

  pub pixels_more : (moves : List (Entry K × Entry K)) (e f : Entry K)
      → pixels_moved (moves ++ (e, f) ∷ []) ≡ pixels_moved moves + pixels_of e
  pixels_more moves e f =
      let one : pixels_moved ((e, f) ∷ []) ≡ pixels_of e = omega arith in
      sum_by-append (λ (m : Entry K × Entry K). pixels_of m.0) moves ((e, f) ∷ []) ∙ ap (λ n. pixels_moved moves + n) one

  pub told_more : (padding : ℤ) (moves : List (Entry K × Entry K)) (e f : Entry K)
      → map (told_move padding) (moves ++ (e, f) ∷ []) ≡ map (told_move padding) moves ++ told_move padding (e, f) ∷ []
  told_more padding [] e f = refl
  told_more padding (m ∷ ms) e f = ap (λ cs. told_move padding m ∷ cs) (told_more padding ms e f)

  module _ (eq : K → K → Bool) (laws : IsEquivalence eq) where
    own_moved : (xs : List (Entry K)) (e f : Entry K) (ys : List (Entry K)) → f.key ≡ e.key → HaveOwnKeys eq (xs ++ e ∷ ys)
        → HaveOwnKeys eq (xs ++ f ∷ ys)
    own_moved [] e f ys named h = (rw named h.0, h.1)
    own_moved (x ∷ xs) e f ys named h = (
      each_moved (λ g. eq x.key g.key ≡ false) xs e f ys h.0
          (ap (λ k. eq x.key k) named ∙ each-here (λ g. eq x.key g.key ≡ false) xs e ys h.0),
      own_moved xs e f ys named h.1,
    )

    -- The entry of the key that moved is the moved one; each other key has its own.
    moved_found : (xs : List (Entry K)) (e f : Entry K) (ys : List (Entry K)) → f.key ≡ e.key → HaveOwnKeys eq (xs ++ e ∷ ys) → (q : K)
        → entry_for eq q (xs ++ f ∷ ys) ≡ cond (eq e.key q) (Some f) (entry_for eq q (xs ++ e ∷ ys))
    moved_found xs e f ys named own q = elim (cases_Bool (eq e.key q)) [
      | inl same ↦
          rw same (here eq laws xs f ys (own_moved xs e f ys named own) q (ap (λ k. eq k q) named ∙ same))
      | inr apart ↦
          let apart_f : eq f.key q ≡ false = ap (λ k. eq k q) named ∙ apart in
          let with_f = gone eq laws xs f ys (own_moved xs e f ys named own) q in
          let with_e = gone eq laws xs e ys own q in
          let is_f : entry_for eq q (xs ++ ys) ≡ entry_for eq q (xs ++ f ∷ ys) = rw apart_f at with_f in
          let is_e : entry_for eq q (xs ++ ys) ≡ entry_for eq q (xs ++ e ∷ ys) = rw apart at with_e in
          rw apart (sym is_f ∙ is_e)
    ]

    module _ (last : ℕ) where
      pub chain_known : (moves : List (Entry K × Entry K)) (pages end : List AtlasValue) (es others : List (Entry K)) → HaveOwnKeys eq es
          → MoveAhead last moves pages end es others → (q : K) → IsSome (entry_for eq q es) → IsSome (entry_for eq q others)
      chain_known [] pages end es others own c q some = subst (λ xs. IsSome (entry_for eq q xs)) c.1 some
      chain_known (m ∷ ms) pages end es others own c q some =
          let one = c.2 in
          let named = ap (λ (x : Entry K). x.key) one.same in
          let was = rw one.was at own in
          let found = moved_found one.newer m.0 m.1 one.older named was q in
          let next : HaveOwnKeys eq c.1 = rw one.is (own_moved one.newer m.0 m.1 one.older named was) in
          chain_known ms c.0 end c.1 others next c.3 q
          (rw (one.is, found) (by_test (eq m.0.key q) (rw one.was at some)))
        where
          by_test : (b : Bool) → IsSome (entry_for eq q (c.2.newer ++ m.0 ∷ c.2.older))
              → IsSome (cond b (Some m.1) (entry_for eq q (c.2.newer ++ m.0 ∷ c.2.older)))
          by_test true known = refl
          by_test false known = known

      -- Who follows the changes knows where each key is.
      pub chain_told : (padding : ℤ) (moves : List (Entry K × Entry K)) (pages end : List AtlasValue) (es others : List (Entry K))
          → HaveOwnKeys eq es → MoveAhead last moves pages end es others → (p : Picture K)
          → ((q : K) → p.places q ≡ option_map (shown padding) (entry_for eq q es)) → (q : K)
          → (all_changed eq (map (told_move padding) moves) p).places q ≡ option_map (shown padding) (entry_for eq q others)
      chain_told padding [] pages end es others own c p is q =
          is q ∙ ap (λ xs. option_map (shown padding) (entry_for eq q xs)) c.1
      chain_told padding (m ∷ ms) pages end es others own c p is q =
          let one = c.2 in
          let named = ap (λ (x : Entry K). x.key) one.same in
          let was = rw one.was at own in
          let next : HaveOwnKeys eq c.1 = rw one.is (own_moved one.newer m.0 m.1 one.older named was) in
          chain_told padding ms c.0 end c.1 others next c.3 (changed eq (told_move padding m) p) (λ r.
          let found = moved_found one.newer m.0 m.1 one.older named was r in
          let known : p.places r ≡ option_map (shown padding) (entry_for eq r (one.newer ++ m.0 ∷ one.older)) =
          is r ∙ ap (λ xs. option_map (shown padding) (entry_for eq r xs)) one.was in
          rw (one.is, found) (by_test r (eq m.0.key r) known)) q
        where
          by_test : (r : K) (b : Bool)
              → p.places r ≡ option_map (shown padding) (entry_for eq r (c.2.newer ++ m.0 ∷ c.2.older))
              → cond b (Some (shown padding m.1)) (p.places r)
              ≡ option_map (shown padding) (cond b (Some m.1) (entry_for eq r (c.2.newer ++ m.0 ∷ c.2.older)))
          by_test r true known = refl
          by_test r false known = known

    pub pages_told : (padding : ℤ) (moves : List (Entry K × Entry K)) (p : Picture K)
        → (all_changed eq (map (told_move padding) moves) p).pages ≡ p.pages
    pages_told padding [] p = refl
    pages_told padding (m ∷ ms) p = pages_told padding ms (changed eq (told_move padding m) p)
