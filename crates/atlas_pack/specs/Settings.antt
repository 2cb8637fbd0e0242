-- The first line may set what a sheet keeps to.
use Rattle.std.specs.Prelude.{◌≡◌, ℕ, ◌<◌, nat_lt, ⊤, option_map, ℤ, pos, negsuc, true, if◌then◌else◌, List, [], ◌∷◌}
use Rattle.std.specs.Prelude.{◌++◌, codes, Option, Some, None, Bool, is_none, is_some, not, ◌||◌, ◌&&◌}
use Rattle.std.specs.Str.{bytes_eq}
use Rattle.atlas_words.specs.Words.{BeginsWithNumber, IsEmptyOrSpaced}
use Rattle.atlas_pack.specs.declared.settings.Setting.{Setting}
use Rattle.atlas_pack.specs.declared.settings.Setting.TheVariants as setting
use Rattle.atlas_pack.specs.declared.settings.Sheets.TheVariants as sheets
use Rattle.atlas_pack.specs.declared.settings.Settings.{Settings}

-- The word of a setting.
abbrev pub setting_name : Setting → List ℕ
setting_name (setting.Allowed (sheets.One size)) = codes "one"
setting_name (setting.Allowed (sheets.Squares least greatest)) = codes "squares"
setting_name (setting.Allowed (sheets.Powers greatest)) = codes "powers"
setting_name (setting.Allowed (sheets.Heights width greatest)) = codes "width"
setting_name (setting.Padding pixels) = codes "padding"
setting_name (setting.Align size) = codes "align"
setting_name setting.Turn = codes "turn"
setting_name (setting.Effort changes) = codes "effort"
setting_name (setting.Seed start) = codes "seed"
setting_name setting.Fill = codes "fill"
setting_name setting.Dense = codes "dense"
setting_name setting.Json = codes "json"
setting_name (setting.Pages most) = codes "pages"
setting_name setting.Group = codes "group"

-- The numbers after that word.
abbrev pub arguments : Setting → List ℤ
arguments (setting.Allowed (sheets.One size)) = size.width ∷ size.height ∷ []
arguments (setting.Allowed (sheets.Squares least greatest)) = least ∷ greatest ∷ []
arguments (setting.Allowed (sheets.Powers greatest)) = greatest ∷ []
arguments (setting.Allowed (sheets.Heights width greatest)) = width ∷ greatest ∷ []
arguments (setting.Padding pixels) = pos pixels ∷ []
arguments (setting.Align size) = size.width ∷ size.height ∷ []
arguments setting.Turn = []
arguments (setting.Effort changes) = pos changes ∷ []
arguments (setting.Seed start) = pos start ∷ []
arguments setting.Fill = []
arguments setting.Dense = []
arguments setting.Json = []
arguments (setting.Pages most) = pos most ∷ []
arguments setting.Group = []

-- Numbers, each after one space, and what follows them.
abbrev pub BeginsWithNumbers : List ℤ → (text rest : List ℕ) → Type 0
BeginsWithNumbers [] text rest = (text ≡ rest) × IsEmptyOrSpaced rest
BeginsWithNumbers (z ∷ zs) text rest = (middle : List ℕ) × BeginsWithNumber text z middle
    × BeginsWithNumbers zs middle rest

-- A padding has at most 65535 pixels.
abbrev pub IsSmall : Setting → Type 0
IsSmall (setting.Padding pixels) = pixels < 65536
IsSmall _ = ⊤

-- A space, the word of a setting and its numbers, and what follows them.
pub record BeginsWithSetting (s : Setting) (text rest : List ℕ) : Type 0 where
  pub after : List ℕ
  pub whole : text ≡ 32 ∷ (setting_name s ++ after)
  pub numbers : BeginsWithNumbers (arguments s) after rest
  pub small : IsSmall s

-- Settings, one after another.
abbrev pub SpellsSettings : List Setting → List ℕ → Type 0
SpellsSettings [] text = text ≡ []
SpellsSettings (s ∷ others) text = (rest : List ℕ) × BeginsWithSetting s text rest × SpellsSettings others rest

-- Settings with one changed.
abbrev pub with_setting : Settings → Setting → Settings
with_setting old (setting.Allowed sheets) = record old { sheets = sheets }
with_setting old (setting.Padding pixels) = record old { padding = pixels }
with_setting old (setting.Align size) = record old { alignment = size }
with_setting old setting.Turn = record old { turn = true }
with_setting old (setting.Effort changes) = record old { effort = changes }
with_setting old (setting.Seed start) = record old { seed = start }
with_setting old setting.Fill = record old { fill = true }
with_setting old setting.Dense = record old { dense = true }
with_setting old setting.Json = record old { json = true }
with_setting old (setting.Pages most) = record old { pages = Some most }
with_setting old setting.Group = record old { group = true }

-- Settings with several changed, one after another.
abbrev pub changed_by : Settings → List Setting → Settings
changed_by old [] = old
changed_by old (s ∷ others) = changed_by (with_setting old s) others

-- For private functions of `settings`: the setting of a word, of a word and a number, of a word and two.
abbrev pub setting_alone : (word : List ℕ) → Option Setting
setting_alone word =
    if bytes_eq word (codes "turn") then Some setting.Turn
    else (if bytes_eq word (codes "fill") then Some setting.Fill
    else (if bytes_eq word (codes "dense") then Some setting.Dense
    else (if bytes_eq word (codes "json") then Some setting.Json
    else (if bytes_eq word (codes "group") then Some setting.Group else None))))

abbrev pub from_zero : ℤ → Option ℕ
from_zero (pos n) = Some n
from_zero (negsuc n) = None

abbrev pub padding_of : Option ℕ → Option Setting
padding_of None = None
padding_of (Some n) = if nat_lt n 65536 then Some (setting.Padding n) else None

abbrev pub setting_with_number : (word : List ℕ) → ℤ → Option Setting
setting_with_number word z =
    if bytes_eq word (codes "powers") then Some (setting.Allowed (sheets.Powers z))
    else (if bytes_eq word (codes "padding") then padding_of (from_zero z)
    else (if bytes_eq word (codes "effort") then option_map setting.Effort (from_zero z)
    else (if bytes_eq word (codes "seed") then option_map setting.Seed (from_zero z)
    else (if bytes_eq word (codes "pages") then option_map setting.Pages (from_zero z) else None))))

abbrev pub setting_with_numbers : (word : List ℕ) → (first second : ℤ) → Option Setting
setting_with_numbers word first second =
    if bytes_eq word (codes "one") then Some (setting.Allowed (sheets.One (record { width = first; height = second })))
    else (if bytes_eq word (codes "squares") then Some (setting.Allowed (sheets.Squares first second))
    else (if bytes_eq word (codes "width") then Some (setting.Allowed (sheets.Heights first second))
    else (if bytes_eq word (codes "align") then Some (setting.Align
    (record { width = first; height = second })) else None)))

-- Whether `pages` stands with neither `fill` nor `dense` nor `json`.
abbrev pub goes_together : Settings → Bool
goes_together settings = is_none settings.pages || (not settings.fill && (not settings.dense && not settings.json))

-- Whether `group` stands with `pages`, where it stands.
abbrev pub has_pages : Settings → Bool
has_pages settings = not settings.group || is_some settings.pages
