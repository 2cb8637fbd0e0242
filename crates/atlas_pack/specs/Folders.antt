-- Sprites in folders.
use Rattle.std.specs.Prelude.{◌≡◌, ℕ, ◌<◌, ◌==◌, ◌↔◌, if◌then◌else◌, Bool, false, List, map, length, Option, Some, None}
use Rattle.std.specs.Prelude.{is_none, slice_index_or, string_bytes}
use Rattle.std.specs.List.{before_last, list_any, position}
use Rattle.std.specs.BTreeMap.{BTreeMap, get}
use Rattle.std.specs.Cmp.Lexicographic.{slice_cmp}
use Rattle.std.specs.Ordering.{nat_cmp}
use Rattle.std.specs.Str.{bytes_eq}
use denote.Ref.{Bor}
use Rattle.atlas_pack.specs.declared.sprites.Sprite.{Sprite}

abbrev pub is_slash : ℕ → Bool
is_slash byte = byte == 47

-- What stands before the last `/` of a name, if there is one.
abbrev pub folder_in : (name : List ℕ) → Option (List ℕ)
folder_in name = if list_any is_slash name then Some (before_last is_slash name) else None

-- The folder of a sprite, if its name has one.
abbrev pub folder_of : Sprite → Option (List ℕ)
folder_of sprite = folder_in (string_bytes sprite.name)

-- Whether this is the folder.
abbrev pub is_folder : (folder : List ℕ) → Option (List ℕ) → Bool
is_folder folder None = false
is_folder folder (Some f) = bytes_eq f folder

-- The number of a folder: that of the first of the sprites in it.
abbrev pub folder_number : List Sprite → Option (List ℕ) → Option ℕ
folder_number sprites None = None
folder_number sprites (Some folder) = position (λ s. is_folder folder (folder_of s)) sprites

-- The number of each sprite's folder; none where its name has no folder.
abbrev pub folder_groups : List Sprite → List (Option ℕ)
folder_groups sprites = map (λ s. folder_number sprites (folder_of s)) sprites

-- A sprite has a number where it has a folder, and two have the same exactly if they have the same folder.
pub record AreByFolder (sprites : List Sprite) (groups : List (Option ℕ)) : Type 0 where
  pub long : length groups ≡ length sprites
  pub none : (k : ℕ) (d : Sprite) → k < length sprites
      → is_none (slice_index_or groups k None) ≡ is_none (folder_of (slice_index_or sprites k d))
  pub same : (j k : ℕ) (d : Sprite) → j < length sprites → k < length sprites
      → (slice_index_or groups j None ≡ slice_index_or groups k None)
      ↔ (folder_of (slice_index_or sprites j d) ≡ folder_of (slice_index_or sprites k d))

-- For private functions of `folders`: the first sprites of folders, as they are kept.
abbrev pub AreFirst : BTreeMap (Bor (List ℕ)) ℕ → List Sprite → Type 0
AreFirst firsts sprites =
    (q : Bor (List ℕ)) → get (λ x y. slice_cmp nat_cmp x.now y.now) firsts q
    ≡ position (λ s. is_folder q.now (folder_of s)) sprites
