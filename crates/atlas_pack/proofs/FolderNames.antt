-- The first sprite in a folder.
use Rattle.std.proofs.Common.{◌≡◌, ℕ, zero, suc, ◌+◌, ◌<◌, Bool, true, false, cond, List, [], ◌∷◌, ◌++◌, map, length, take, get_or}
use Rattle.std.proofs.Common.{Option, Some, None, Ordering, is_none, string_bytes, refl, sym, ap, subst, ◌∙◌, arith}
use Rattle.std.specs.BTreeMap.{BTreeMap, Updates, get}
use Rattle.std.specs.Cmp.Lexicographic.{slice_cmp}
use Rattle.std.specs.List.{position, position_from}
use Rattle.std.specs.Ordering.{nat_cmp}
use Rattle.std.specs.Str.{bytes_eq}
use Rattle.std.proofs.lemmas.Iterator.Adapters.{position_from-zero}
use Rattle.std.proofs.lemmas.List.{get_or-map, get_or_default, length-map, map_more}
use Rattle.std.proofs.lemmas.List.Quantifiers.{position-Some}
use Rattle.std.proofs.lemmas.Map.Text.{is_eq-slice_cmp}
use Rattle.std.proofs.lemmas.Slice.Eq.{bytes_eq-Decides}
use denote.Ref.{Bor}
use Rattle.atlas_pack.specs.declared.sprites.Sprite.{Sprite}
use Rattle.atlas_pack.specs.Folders.{AreByFolder, AreFirst, folder_groups, folder_in, folder_number, folder_of, is_folder}

-- The first of two, or the second where the first is none.
abbrev pub or_else : Option ℕ → Option ℕ → Option ℕ
or_else (Some n) other = Some n
or_else None other = other

by_test : (b : Bool) (a : ℕ) (u v w : Option ℕ) → u ≡ or_else v w → cond b (Some a) u ≡ or_else (cond b (Some a) v) w
by_test true a u v w e = refl
by_test false a u v w e = e

module _ {X : Type 0} (p : X → Bool) where
  from_more : (a : ℕ) (xs : List X) (i : ℕ) (d : X) → i < length xs
      → position_from p a (take (suc i) xs) ≡ or_else (position_from p a (take i xs)) (cond (p (get_or xs i d)) (Some (a + i)) None)
  from_more a [] i d low = absurd (omega arith)
  from_more a (x ∷ xs) zero d low = let same : a ≡ a + 0 = omega arith in ap (λ (n : ℕ). cond (p x) (Some n) None) same
  from_more a (x ∷ xs) (suc i) d low =
      let same : a + 1 + i ≡ a + suc i = omega arith in
      by_test (p x) a _ _ _ (from_more (a + 1) xs i d (omega arith)
      ∙ ap (λ (n : ℕ). or_else (position_from p (a + 1) (take i xs)) (cond (p (get_or xs i d)) (Some n) None)) same)

  -- Where the first one stands, with one more.
  pub position_more : (xs : List X) (i : ℕ) (d : X) → i < length xs
      → position p (take (i + 1) xs) ≡ or_else (position p (take i xs)) (cond (p (get_or xs i d)) (Some i) None)
  position_more xs i d low =
      let next : i + 1 ≡ suc i = omega arith in
      let same : 0 + i ≡ i = omega arith in
      position_from-zero p (take (i + 1) xs) ∙ ap (λ (n : ℕ). position_from p 0 (take n xs)) next ∙ from_more 0 xs i d low
      ∙ ap (λ (n : ℕ). or_else (position_from p 0 (take i xs)) (cond (p (get_or xs i d)) (Some n) None)) same
      ∙ ap (λ (o : Option ℕ). or_else o (cond (p (get_or xs i d)) (Some i) None)) (sym (position_from-zero p (take i xs)))

  kept_by : (b : Bool) (a n : ℕ) (u v : Option ℕ) → (u ≡ Some n → v ≡ Some n) → cond b (Some a) u ≡ Some n
      → cond b (Some a) v ≡ Some n
  kept_by true a n u v h e = e
  kept_by false a n u v h e = h e

  from_kept : (a : ℕ) (xs : List X) (i n : ℕ) → position_from p a (take i xs) ≡ Some n → position_from p a xs ≡ Some n
  from_kept a [] zero n e = absurd (cc)
  from_kept a [] (suc i) n e = absurd (cc)
  from_kept a (x ∷ xs) zero n e = absurd (cc)
  from_kept a (x ∷ xs) (suc i) n e = kept_by (p x) a n _ _ (from_kept (a + 1) xs i n) e

  -- What stands first among the first ones stands first among all.
  pub position_kept : (xs : List X) (i n : ℕ) → position p (take i xs) ≡ Some n → position p xs ≡ Some n
  position_kept xs i n e = position_from-zero p xs ∙ from_kept 0 xs i n (sym (position_from-zero p (take i xs)) ∙ e)

  found_by : (b : Bool) (a : ℕ) (u : Option ℕ) → (b ≡ false → (n : ℕ) × (u ≡ Some n))
      → (n : ℕ) × (cond b (Some a) u ≡ Some n)
  found_by true a u h = (a, refl)
  found_by false a u h = h refl

  from_found : (a : ℕ) (xs : List X) (k : ℕ) (d : X) → k < length xs → p (get_or xs k d) ≡ true
      → (n : ℕ) × (position_from p a xs ≡ Some n)
  from_found a [] k d low e = absurd (omega arith)
  from_found a (x ∷ xs) zero d low e = (a, ap (λ (b : Bool). cond b (Some a) (position_from p (a + 1) xs)) e)
  from_found a (x ∷ xs) (suc k) d low e = found_by (p x) a _ (λ no. from_found (a + 1) xs k d (omega arith) e)

  -- Where one passes, one is the first.
  pub position_found : (xs : List X) (k : ℕ) (d : X) → k < length xs → p (get_or xs k d) ≡ true
      → (n : ℕ) × (position p xs ≡ Some n)
  position_found xs k d low e = let found = from_found 0 xs k d low e in (found.0, position_from-zero p xs ∙ found.1)

folder_by_test : (f : List ℕ) (o : Option (List ℕ)) → is_folder f o ≡ true → o ≡ Some f
folder_by_test f None e = absurd (cc)
folder_by_test f (Some g) e = ap (λ (h : List ℕ). Some h) ((bytes_eq-Decides g f).0 e)

test_by_folder : (f : List ℕ) (o : Option (List ℕ)) → o ≡ Some f → is_folder f o ≡ true
test_by_folder f o e = ap (is_folder f) e ∙ (bytes_eq-Decides f f).1 refl

module _ (sprites : List Sprite) where
  -- The first sprite of a folder has it.
  first_has : (f : List ℕ) (n : ℕ) (d : Sprite) → folder_number sprites (Some f) ≡ Some n
      → folder_of (get_or sprites n d) ≡ Some f
  first_has f n d e = folder_by_test f _ (position-Some (λ s. is_folder f (folder_of s)) sprites n d e).1

  has_first : (f : List ℕ) (k : ℕ) (d : Sprite) → k < length sprites → folder_of (get_or sprites k d) ≡ Some f
      → (n : ℕ) × (folder_number sprites (Some f) ≡ Some n)
  has_first f k d low e = position_found (λ s. is_folder f (folder_of s)) sprites k d low (test_by_folder f _ e)

  none_known : (o : Option (List ℕ)) (k : ℕ) (d : Sprite) → k < length sprites → folder_of (get_or sprites k d) ≡ o
      → is_none (folder_number sprites o) ≡ is_none o
  none_known None k d low e = refl
  none_known (Some f) k d low e = ap is_none (has_first f k d low e).1

  same_known : (o q : Option (List ℕ)) (j k : ℕ) (d : Sprite) → j < length sprites → k < length sprites
      → folder_of (get_or sprites j d) ≡ o
      → folder_of (get_or sprites k d) ≡ q → folder_number sprites o ≡ folder_number sprites q → o ≡ q
  same_known None None j k d low high a b e = refl
  same_known None (Some g) j k d low high a b e = let first = has_first g k d high b in let is = first.1 in absurd (cc)
  same_known (Some f) None j k d low high a b e = let first = has_first f j d low a in let is = first.1 in absurd (cc)
  same_known (Some f) (Some g) j k d low high a b e =
      let first = has_first f j d low a in
      sym (first_has f first.0 d first.1) ∙ first_has g first.0 d (sym e ∙ first.1)

  group_at : (k : ℕ) (d : Sprite) → k < length sprites
      → get_or (folder_groups sprites) k None ≡ folder_number sprites (folder_of (get_or sprites k d))
  group_at k d low = get_or-map (λ s. folder_number sprites (folder_of s)) sprites k d None low

  -- Numbers by folder.
  pub by_folder : AreByFolder sprites (folder_groups sprites)
  by_folder = record {
    long = length-map sprites (λ s. folder_number sprites (folder_of s));
    none = λ k d low. ap is_none (group_at k d low) ∙ none_known _ k d low refl;
    same = λ j k d low high. (
      (λ e. same_known _ _ j k d low high refl refl (sym (group_at j d low) ∙ e ∙ group_at k d high)),
      (λ e. group_at j d low ∙ ap (folder_number sprites) e ∙ sym (group_at k d high)),
    );
  }

pub are_by_folder : (sprites : List Sprite) (groups : List (Option ℕ)) → groups ≡ folder_groups sprites
    → AreByFolder sprites groups
are_by_folder sprites groups e = subst (AreByFolder sprites) (sym e) (by_folder sprites)

or_none : (o : Option ℕ) → or_else o None ≡ o
or_none (Some n) = refl
or_none None = refl

abbrev by_bytes : Bor (List ℕ) → Bor (List ℕ) → Ordering
by_bytes x y = slice_cmp nat_cmp x.now y.now

abbrev lies_in_folder : (folder : List ℕ) → Sprite → Bool
lies_in_folder folder s = is_folder folder (folder_of s)

-- A sprite with a folder, after earlier ones.
module _ (sprites : List Sprite) (i : ℕ) (x : Sprite) (firsts : BTreeMap (Bor (List ℕ)) ℕ) (folder : Bor (List ℕ)) (name : List ℕ)
    (low : i < length sprites) (named : name ≡ string_bytes (get_or sprites i x).name) (found : folder_in name ≡ Some folder.now)
    (known : AreFirst firsts (take i sprites)) where
  here : (d : Sprite) → folder_of (get_or sprites i d) ≡ Some folder.now
  here d = ap folder_of (get_or_default sprites i d x low) ∙ ap folder_in (sym named) ∙ found

  next : (q : List ℕ) → position (lies_in_folder q) (take (i + 1) sprites)
      ≡ or_else (position (lies_in_folder q) (take i sprites)) (cond (bytes_eq folder.now q) (Some i) None)
  next q =
      position_more (lies_in_folder q) sprites i x low
      ∙ ap (λ (b : Bool). or_else (position (lies_in_folder q) (take i sprites)) (cond b (Some i) None)) (ap (is_folder q) (here x))

  by_first : (n : ℕ) (q : Bor (List ℕ)) (b : Bool) → get by_bytes firsts folder ≡ Some n → bytes_eq folder.now q.now ≡ b
      → position (lies_in_folder q.now) (take i sprites) ≡ or_else (position (lies_in_folder q.now) (take i sprites)) (cond b (Some i) None)
  by_first n q false e t = sym (or_none (position (lies_in_folder q.now) (take i sprites)))
  by_first n q true e t =
      let same : folder.now ≡ q.now = (bytes_eq-Decides folder.now q.now).0 t in
      let first : position (lies_in_folder q.now) (take i sprites) ≡ Some n =
      ap (λ (f : List ℕ). position (lies_in_folder f) (take i sprites)) (sym same) ∙ sym (known folder) ∙ e in
      first ∙ sym (ap (λ (o : Option ℕ). or_else o (Some i)) first)

  -- The first sprite of the folder is known.
  pub known_kept : (n : ℕ) → get by_bytes firsts folder ≡ Some n → AreFirst firsts (take (i + 1) sprites)
  known_kept n e q =
      known q ∙ by_first n q (bytes_eq folder.now q.now) e refl ∙ sym (next q.now)

  pub number_known : (n : ℕ) → get by_bytes firsts folder ≡ Some n → (d : Sprite)
      → Some n ≡ folder_number sprites (folder_of (get_or sprites i d))
  number_known n e d =
      sym (ap (folder_number sprites) (here d) ∙ position_kept (lies_in_folder folder.now) sprites i n (sym (known folder) ∙ e))

  by_new : (q : Bor (List ℕ)) (b : Bool) → get by_bytes firsts folder ≡ None → bytes_eq folder.now q.now ≡ b
      → cond b (Some i) (position (lies_in_folder q.now) (take i sprites)) ≡ or_else (position (lies_in_folder q.now) (take i sprites))
      (cond b (Some i) None)
  by_new q false e t = sym (or_none (position (lies_in_folder q.now) (take i sprites)))
  by_new q true e t =
      let same : folder.now ≡ q.now = (bytes_eq-Decides folder.now q.now).0 t in
      let none : position (lies_in_folder q.now) (take i sprites) ≡ None =
      ap (λ (f : List ℕ). position (lies_in_folder f) (take i sprites)) (sym same) ∙ sym (known folder) ∙ e in
      sym (ap (λ (o : Option ℕ). or_else o (Some i)) none)

  -- This one is the first.
  pub known_new : (new : BTreeMap (Bor (List ℕ)) ℕ) → get by_bytes firsts folder ≡ None
      → Updates by_bytes firsts new folder (Some i)
      → AreFirst new (take (i + 1) sprites)
  known_new new e updates q =
      updates.0 q ∙ ap (λ (b : Bool). cond b (Some i) (get by_bytes firsts q)) (is_eq-slice_cmp folder.now q.now)
      ∙ ap (λ (o : Option ℕ). cond (bytes_eq folder.now q.now) (Some i) o) (known q) ∙ by_new q (bytes_eq folder.now q.now) e refl ∙
      sym (next q.now)

  pub number_new : get by_bytes firsts folder ≡ None → (d : Sprite)
      → Some i ≡ folder_number sprites (folder_of (get_or sprites i d))
  number_new e d =
      let test : bytes_eq folder.now folder.now ≡ true = (bytes_eq-Decides folder.now folder.now).1 refl in
      let first : position (lies_in_folder folder.now) (take (i + 1) sprites) ≡ Some i =
      next folder.now ∙ sym (by_new folder (bytes_eq folder.now folder.now) e refl)
      ∙ ap (λ (b : Bool). cond b (Some i) (position (lies_in_folder folder.now) (take i sprites))) test in
      sym (ap (folder_number sprites) (here d) ∙ position_kept (lies_in_folder folder.now) sprites (i + 1) i first)

-- One number more.
pub groups_more : (sprites : List Sprite) (f : Sprite → Option ℕ) (i : ℕ) (old new : List (Option ℕ)) (g : Option ℕ)
    → i < length sprites
    → new ≡ old ++ g ∷ [] → old ≡ map f (take i sprites) → ((d : Sprite) → g ≡ f (get_or sprites i d))
    → new ≡ map f (take (i + 1) sprites)
groups_more [] f i old new g low pushed was is = absurd (omega arith)
groups_more (x ∷ sprites) f i old new g low pushed was is =
    pushed ∙ ap (λ (gs : List (Option ℕ)). gs ++ g ∷ []) was ∙ ap (λ (h : Option ℕ). map f (take i (x ∷ sprites)) ++ h ∷ []) (is x)
    ∙ sym (map_more f (x ∷ sprites) i x low)
