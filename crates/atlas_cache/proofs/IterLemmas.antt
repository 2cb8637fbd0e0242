-- The entries that are still to come, one after another.
use Rattle.std.proofs.Common.{ℕ, ℤ, ◌+◌, ◌-◌, ◌≡◌, eqb, List, [], ◌∷◌, ◌++◌, length, map, take, Option, None, Some, refl, sym, ap, ◌∙◌}
use Rattle.std.proofs.Common.{arith, append_assoc, length-append}
use Rattle.std.proofs.lemmas.List.{drop_at, length-drop, take-append-drop}
use Rattle.std.proofs.lemmas.Option.{none-some, same_Some}
use Rattle.std.specs.List.{IsDistinct}
use Rattle.atlas_entries.specs.declared.entries.Entry.{Entry}
use Rattle.atlas_cache.specs.Caches.{entries_of}
use Rattle.atlas_entries.specs.Entries.{entry_at, numbers, IsNumber}
use Rattle.atlas_entries.specs.Orders.{newest_of}
use Rattle.atlas_cache.specs.Walking.{keyed, oldest_entries, AreToCome}
use Rattle.atlas_cache.proofs.WalkLemmas.{at-number, numbers-split, Split, no-first}

module _ {K : Type 0} where
  oldest-split : (newer older : List (ℕ × Entry K)) (left : ℕ) → left ≡ length older
      → oldest_entries left (newer ++ older) ≡ older
  oldest-split newer older left is =
      drop_at newer older (length (newer ++ older) - left) (omega (arith, is, length-append newer older))

  pub none-to_come : (left : ℕ) (es : List (ℕ × Entry K)) → AreToCome None left es → oldest_entries left es ≡ []
  none-to_come left es h = no-first (oldest_entries left es) h.first

  -- The entry that comes next, with the others around it.
  pub record Turn (n left : ℕ) (es : List (ℕ × Entry K)) : Type 0 where
    pub entry : Entry K
    pub at : Split n entry es
    pub rest : oldest_entries left es ≡ (n, entry) ∷ at.older
    pub size : left ≡ length at.older + 1

  pub turn : (n left : ℕ) (es : List (ℕ × Entry K)) → AreToCome (Some n) left es → Turn n left es
  turn n left es h = go (oldest_entries left es) refl
    where
      newer : List (ℕ × Entry K)
      newer = take (length es - left) es

      go : (xs : List (ℕ × Entry K)) → oldest_entries left es ≡ xs → Turn n left es
      go [] is = absurd (none-some n (sym (h.first ∙ ap (λ ys. newest_of (numbers ys)) is)))
      go (x ∷ older) is =
          let number : n ≡ x.0 = same_Some n x.0 (h.first ∙ ap (λ ys. newest_of (numbers ys)) is) in
          let named : x ∷ older ≡ (n, x.1) ∷ older = ap (λ (m : ℕ). (m, x.1) ∷ older) (sym number) in
          record {
            entry = x.1;
            at = record {
              newer = newer;
              older = older;
              was = sym (take-append-drop (length es - left) es) ∙ ap (λ ys. newer ++ ys) (is ∙ named);
            };
            rest = is ∙ named;
            size = omega (arith, h.most, length-drop (length es - left) es, ap length is);
          }

  module _ (n left : ℕ) (es : List (ℕ × Entry K)) (t : Turn n left es) where
    pub turn-entry : IsDistinct eqb (numbers es) → entry_at n es ≡ Some t.entry
    turn-entry apart =
        rw t.at.was (at-number t.at.newer n t.entry t.at.older (rw t.at.was at apart))

    pub turn-number : IsDistinct eqb (numbers es) → IsNumber n es
    turn-number apart = rw (turn-entry apart) refl

    pub turn-rest : oldest_entries (left - 1) es ≡ t.at.older
    turn-rest =
        let size = t.size in
        ap (oldest_entries (left - 1)) (t.at.was ∙ sym (append_assoc t.at.newer ((n, t.entry) ∷ []) t.at.older)) ∙
        oldest-split (t.at.newer ++ (n, t.entry) ∷ []) t.at.older (left - 1) (omega (arith, size))

    pub turn-to_come : (next : Option ℕ)
        → ((newer older : List ℕ) → numbers es ≡ newer ++ n ∷ older → next ≡ newest_of older)
        → AreToCome next (left - 1) es
    turn-to_come next is = record {
      most = let size = t.size in omega (arith, ap length t.at.was, length-append t.at.newer ((n, t.entry) ∷ t.at.older), size);
      first = is (numbers t.at.newer) (numbers t.at.older) (numbers-split n t.entry es t.at)
          ∙ ap (λ xs. newest_of (numbers xs)) (sym turn-rest);
    }

    pub turn-gives : (padding : ℤ) (e : Entry K) → IsDistinct eqb (numbers es) → entry_at n es ≡ Some e
        → map (keyed padding) (entries_of (oldest_entries left es))
        ≡ keyed padding e ∷ map (keyed padding) (entries_of (oldest_entries (left - 1) es))
    turn-gives padding e apart at =
        let same : t.entry ≡ e = same_Some t.entry e (sym (turn-entry apart) ∙ at) in
        ap (λ xs. map (keyed padding) (entries_of xs)) t.rest ∙
        ap (λ f. keyed padding f ∷ map (keyed padding) (entries_of t.at.older)) same ∙
        ap (λ xs. keyed padding e ∷ map (keyed padding) (entries_of xs)) (sym turn-rest)
