-- The entries that lie on a page, among all of a cache.
use Rattle.std.proofs.Common.{ℕ, ◌+◌, ◌≤◌, ◌≡◌, inl, inr, true, false, List, [], ◌∷◌, ◌++◌, length, refl, sym, ap, ◌∙◌, arith}
use Rattle.std.proofs.lemmas.{Bool.{cases_Bool}}
use Rattle.std.proofs.lemmas.Bool.{false≢true}
use Rattle.std.specs.List.{AllByRecursion}
use Rattle.atlas_entries.specs.declared.entries.Entry.{Entry}
use Rattle.atlas_cache.specs.Caches.{FramesFall}
use Rattle.atlas_entries.specs.Entries.{is_blank, lying}
use Rattle.atlas_cache.proofs.ListLemmas.{falls-all, falls-later, Parts}

module _ {K : Type 0} where
  pub lying-append : (xs ys : List (Entry K)) → lying (xs ++ ys) ≡ lying xs ++ lying ys
  lying-append [] ys = refl
  lying-append (x ∷ xs) ys = elim (cases_Bool (is_blank x)) [
    | inl blank ↦ rw blank (lying-append xs ys)
    | inr lies ↦ rw lies (ap (λ es. x ∷ es) (lying-append xs ys))
  ]

  pub lying-here : (e : Entry K) (es : List (Entry K)) → is_blank e ≡ false → lying (e ∷ es) ≡ e ∷ lying es
  lying-here e es lies = rw lies refl

  pub lying-past : (e : Entry K) (es : List (Entry K)) → is_blank e ≡ true → lying (e ∷ es) ≡ lying es
  lying-past e es blank = rw blank refl

  -- Without a blank entry the same lie on a page.
  pub parts-blank : (e : Entry K) (es rest : List (Entry K)) → is_blank e ≡ true → Parts e es rest
      → lying es ≡ lying rest
  parts-blank e es rest blank p =
      ap lying p.was ∙ lying-append p.newer (e ∷ p.older) ∙ ap (λ ys. lying p.newer ++ ys) (lying-past e p.older blank)
      ∙ sym (ap lying p.rests ∙ lying-append p.newer p.older)

  -- And without another one, those but this.
  pub parts-lying : (e : Entry K) (es rest : List (Entry K)) → is_blank e ≡ false → Parts e es rest
      → Parts e (lying es) (lying rest)
  parts-lying e es rest lies p = record {
    newer = lying p.newer;
    older = lying p.older;
    was = ap lying p.was ∙ lying-append p.newer (e ∷ p.older) ∙ ap (λ ys. lying p.newer ++ ys) (lying-here e p.older lies);
    rests = ap lying p.rests ∙ lying-append p.newer p.older;
  }

  module _ (P : Entry K → Type 0) where
    pub each-where : (es : List (Entry K)) → AllByRecursion P (lying es)
        → AllByRecursion (λ e. is_blank e ≡ false → P e) es
    each-where [] all = tt
    each-where (e ∷ es) all = elim (cases_Bool (is_blank e)) [
      | inl blank ↦
          let rest = rw blank at all in
          (λ lies. absurd (false≢true (sym lies ∙ blank)), each-where es rest)
      | inr lies ↦ let both = rw lies at all in (λ _. both.0, each-where es both.1)
    ]

  falls-lying : (f : ℕ) (es : List (Entry K)) → FramesFall f es → FramesFall f (lying es)
  falls-lying f [] h = tt
  falls-lying f (e ∷ es) h = elim (cases_Bool (is_blank e)) [
    | inl blank ↦ rw blank (falls-later e.frame f (lying es) h.0 (falls-lying e.frame es h.1))
    | inr lies ↦ rw lies (h.0, falls-lying e.frame es h.1)
  ]

  -- Where the oldest that lies on a page is used in this frame, all are.
  pub all-in-use : (frame : ℕ) (newer : List (Entry K)) (e : Entry K) (older : List (Entry K)) → is_blank e ≡ false
      → lying older ≡ []
      → FramesFall frame (newer ++ e ∷ older) → e.frame ≡ frame
      → AllByRecursion (λ x. x.frame ≡ frame) (lying (newer ++ e ∷ older))
  all-in-use frame newer e older lies blank falls same =
      let is : lying (newer ++ e ∷ older) ≡ lying newer ++ e ∷ [] =
      lying-append newer (e ∷ older) ∙ ap (λ ys. lying newer ++ ys) (lying-here e older lies ∙ ap (λ ys. e ∷ ys) blank) in
      rw is (falls-all frame frame (lying newer) e (rw is at (falls-lying frame (newer ++ e ∷ older) falls)) (omega arith) same)

  pub falls-here : (f : ℕ) (xs : List (Entry K)) (e : Entry K) (ys : List (Entry K)) → FramesFall f (xs ++ e ∷ ys)
      → e.frame ≤ f
  falls-here f [] e ys h = h.0
  falls-here f (x ∷ xs) e ys h = let here = h.0 in omega (arith, here, falls-here x.frame xs e ys h.1)

pub length-less : {X : Type 0} (xs : List X) (e : X) (ys : List X) → length (xs ++ e ∷ ys) ≡ length (xs ++ ys) + 1
length-less [] e ys = omega arith
length-less (x ∷ xs) e ys = omega (arith, length-less xs e ys)
