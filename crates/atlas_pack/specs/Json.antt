-- A sheet as JSON, in the form that sprite engines read.
use Rattle.std.specs.Prelude.{ℕ, Bool, ◌==◌, ◌||◌, if◌then◌else◌, List, [], ◌∷◌, ◌++◌, codes, flat_map, string_bytes}
use Rattle.std.specs.Fmt.{signed_decimal}
use Rattle.atlas_model.specs.declared.geometry.Point.{Point}
use Rattle.atlas_model.specs.declared.geometry.Size.{Size}
use Rattle.atlas_pack.specs.declared.frames.Frame.{Frame}
use Rattle.atlas_pack.specs.declared.sprites.Sprite.{Sprite}

-- A byte of a name: a quotation mark and a backslash have a backslash before them.
abbrev pub escaped_byte : ℕ → List ℕ
escaped_byte byte = if (byte == 34) || (byte == 92) then 92 ∷ byte ∷ [] else byte ∷ []

-- A name as a JSON string.
abbrev pub quoted : List ℕ → List ℕ
quoted name = codes "\"" ++ (flat_map escaped_byte name ++ codes "\"")

abbrev pub rotated_text : Bool → List ℕ
rotated_text turned = if turned then codes "true" else codes "false"

-- Where a sprite lies.
abbrev pub corner_text : Point → List ℕ
corner_text at = codes ":{\"frame\":{\"x\":" ++ (signed_decimal at.x ++ (codes ",\"y\":" ++ signed_decimal at.y))

-- The size of a sprite, and whether it is turned.
abbrev pub sides_text : Size → Bool → List ℕ
sides_text size turned =
    codes ",\"w\":"
    ++ (signed_decimal size.width
    ++ (codes ",\"h\":"
    ++ (signed_decimal size.height ++ (codes "},\"rotated\":" ++ (rotated_text turned ++ codes "}")))))

-- A sprite: its name and its frame.
abbrev pub member_text : Frame → List ℕ
member_text p = quoted (string_bytes p.sprite.name) ++ (corner_text p.corner ++ sides_text p.sprite.size p.turned)

-- A frame after another.
abbrev pub next_member_text : Frame → List ℕ
next_member_text p = codes ",\n" ++ member_text p

-- The frames in order, with a comma between two.
abbrev pub members_text : List Frame → List ℕ
members_text [] = []
members_text (p ∷ others) = member_text p ++ flat_map next_member_text others

-- The size of the sheet.
abbrev pub sheet_size_text : Size → List ℕ
sheet_size_text sheet =
    codes "\n},\"meta\":{\"size\":{\"w\":"
    ++ (signed_decimal sheet.width ++ (codes ",\"h\":" ++ (signed_decimal sheet.height ++ codes "}")))

-- A name after another.
abbrev pub next_name_text : Sprite → List ℕ
next_name_text sprite = codes "," ++ quoted (string_bytes sprite.name)

-- The names of the sprites that found no place, in order; nothing where there are none.
abbrev pub left_names_text : (left : List Sprite) → List ℕ
left_names_text [] = []
left_names_text (sprite ∷ others) =
    codes ",\"left\":[" ++ (quoted (string_bytes sprite.name) ++ (flat_map next_name_text others ++ codes "]"))

-- What is said of the sheet.
abbrev pub meta_text : Size → (left : List Sprite) → List ℕ
meta_text sheet left = sheet_size_text sheet ++ (left_names_text left ++ codes "}}\n")

-- One object: the frames by name, and the sheet.
abbrev pub json_of : Size → List Frame → (left : List Sprite) → List ℕ
json_of sheet frames left = codes "{\"frames\":{\n" ++ (members_text frames ++ meta_text sheet left)
