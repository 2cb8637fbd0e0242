-- What was read is all that there was, and the text of frames that are the same.
use Rattle.std.proofs.Common.{◌≡◌, ℕ, Bool, List, [], ◌++◌, Option, Some, None, IfSome, flat_map, length, sym, ap, ◌∙◌}
use Rattle.std.specs.List.{zip}
use Rattle.atlas_model.specs.declared.geometry.Size.{Size}
use Rattle.atlas_sheet.specs.declared.placed.Placed.{Placed}
use Rattle.atlas_words.specs.Devices.{HoldsBytes}
use Rattle.atlas_pack.specs.declared.frames.Frame.{Frame}
use Rattle.atlas_pack.specs.declared.sprites.Sprite.{Sprite}
use Rattle.atlas_pack.specs.Runs.{frame_in, frames_of, left_in, left_of, written}

pub read_all : (known : Option (List ℕ)) (before after bytes : List ℕ) → IfSome known (λ xs. after ≡ before ++ xs)
    → before ≡ [] → bytes ≡ after
    → HoldsBytes known bytes
read_all None before after bytes h e f = tt
read_all (Some xs) before after bytes h e f = sym (f ∙ h ∙ ap (λ (ys : List ℕ). ys ++ xs) e)

-- The text of what was parted is that of the sprites and their places.
pub same_text : (json : Bool) (sheet : Size) (fs gs : List Frame) (ls ks : List Sprite) (s : List Sprite)
    (p q : List (Option Placed))
    (ps : List (Sprite × Option Placed)) → gs ≡ flat_map frame_in ps → ks ≡ flat_map left_in ps → ps ≡ zip s p → p ≡ q → fs ≡ gs → ls ≡ ks
    → written json sheet fs ls ≡ written json sheet (frames_of s q) (left_of s q)
same_text json sheet fs gs ls ks s p q ps a b c d e f =
    (λ k. written json sheet (e k) (f k)) ∙ (λ k. written json sheet (a k) (b k))
    ∙ (λ k. written json sheet (flat_map frame_in (c k)) (flat_map left_in (c k))) ∙
    (λ k. written json sheet (frames_of s (d k)) (left_of s (d k)))

-- So many of them have no place.
pub same_left : (ks s : List Sprite) (p q : List (Option Placed)) (ps : List (Sprite × Option Placed))
    → ks ≡ flat_map left_in ps → ps ≡ zip s p → p ≡ q
    → length ks ≡ length (left_of s q)
same_left ks s p q ps a b c = ap length a ∙ (λ k. length (flat_map left_in (b k))) ∙ (λ k. length (left_of s (c k)))
