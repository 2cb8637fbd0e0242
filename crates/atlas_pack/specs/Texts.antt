-- A sheet as lines.
use Rattle.std.specs.Prelude.{List, ℕ, Bool, false, [], ◌∷◌, if◌then◌else◌, ◌++◌, ◌==◌, ◌||◌, codes, decimal, flat_map, string_bytes}
use Rattle.std.specs.List.{list_any}
use Rattle.std.specs.Fmt.{signed_decimal}
use Rattle.atlas_model.specs.declared.geometry.Size.{Size}
use Rattle.atlas_pack.specs.declared.frames.Frame.{Frame}
use Rattle.atlas_pack.specs.declared.sprites.Sprite.{Sprite}
use Rattle.atlas_pack.specs.Frames.{fullness}
use Rattle.atlas_pack.specs.Json.{quoted}

-- The size of the sheet.
abbrev pub sheet_line : Size → List ℕ
sheet_line sheet =
    codes "sheet " ++ (signed_decimal sheet.width ++ (codes " " ++ (signed_decimal sheet.height ++ codes "\n")))

abbrev pub turned_text : Bool → List ℕ
turned_text turned = if turned then codes " turned" else []

-- Whether a name has to stand in quotation marks: it has a space, or begins with a quotation mark.
abbrev pub needs_quotes : List ℕ → Bool
needs_quotes [] = false
needs_quotes (byte ∷ bytes) = (byte == 34) || list_any (λ b. b == 32) (byte ∷ bytes)

-- A name in a line.
abbrev pub spelled : List ℕ → List ℕ
spelled name = if needs_quotes name then quoted name else name

-- Where a sprite's upper left corner lies, its size, and whether it is turned.
abbrev pub frame_place_text : Frame → List ℕ
frame_place_text p =
    codes " "
    ++ (signed_decimal p.corner.x
    ++ (codes " "
    ++ (signed_decimal p.corner.y
    ++ (codes " "
    ++ (signed_decimal p.sprite.size.width ++ (codes " " ++ (signed_decimal p.sprite.size.height
    ++ (turned_text p.turned ++ codes "\n"))))))))

-- A sprite: its name and its place.
abbrev pub place_line : Frame → List ℕ
place_line p = spelled (string_bytes p.sprite.name) ++ frame_place_text p

-- How full the sheet is.
abbrev pub full_text : ℕ → List ℕ
full_text fullness = codes "full " ++ (decimal fullness ++ codes "\n")

-- A sprite that found no place.
abbrev pub left_text : Sprite → List ℕ
left_text sprite = spelled (string_bytes sprite.name) ++ codes " none\n"

-- The sheet, a line for each sprite with a place and then for each without, in order, and how full the sheet is.
abbrev pub text_of : Size → List Frame → (left : List Sprite) → List ℕ
text_of sheet frames left =
    sheet_line sheet ++ (flat_map place_line frames ++ (flat_map left_text left ++ full_text (fullness sheet frames)))
