-- Settings, one after another.
use Rattle.std.proofs.Common.{◌≡◌, ◌≢◌, ℕ, List, [], ◌∷◌, refl, sym, ap, ◌∙◌, ◌<◌, ◌≤◌, length, ℤ, arith, length-append}
use Rattle.atlas_pack.specs.declared.settings.Setting.{Setting}
use Rattle.atlas_pack.specs.declared.settings.Settings.{Settings}
use Rattle.atlas_pack.specs.Settings.{BeginsWithNumbers, BeginsWithSetting, SpellsSettings, arguments, with_setting, changed_by}
use Rattle.atlas_pack.specs.Settings.{setting_name}

-- The first of the settings that a text spells.
pub next_spelled : (all : List Setting) (text : List ℕ) → SpellsSettings all text → text ≢ []
    → (s : Setting) × (others : List Setting) × (rest : List ℕ) × (all ≡ s ∷ others) × BeginsWithSetting s text rest
    × SpellsSettings others rest
next_spelled [] text spells some = absurd (some spells)
next_spelled (s ∷ others) text spells some = (s, others, spells.0, refl, spells.1, spells.2)

-- No text spells nothing more.
pub none_spelled : (all : List Setting) (text : List ℕ) → SpellsSettings all text → text ≡ [] → all ≡ []
none_spelled [] text spells none = refl
none_spelled (s ∷ others) text spells none = let whole = spells.1.whole in absurd (cc)

pub changed_more : (whole old new : Settings) (more others : List Setting) (s setting : Setting)
    → whole ≡ changed_by old more → more ≡ s ∷ others
    → setting ≡ s → new ≡ with_setting old setting → whole ≡ changed_by new others
changed_more whole old new more others s setting a b c d =
    a ∙ ap (changed_by old) b ∙ ap (λ (n : Settings). changed_by n others) (ap (with_setting old) (sym c) ∙ sym d)

numbers_shorter : (zs : List ℤ) (text rest : List ℕ) → BeginsWithNumbers zs text rest → length rest ≤ length text
numbers_shorter [] text rest h = let same = ap length h.0 in omega (arith, same)
numbers_shorter (z ∷ zs) text rest h =
    let whole = ap length h.1.whole in
    let more = numbers_shorter zs h.0 rest h.2 in
    omega (arith, whole, more, length-append h.1.word h.0)

-- What follows a setting is shorter.
pub setting_shorter : (s : Setting) (text rest : List ℕ) → BeginsWithSetting s text rest → length rest < length text
setting_shorter s text rest h =
    let whole = ap length h.whole in
    let more = numbers_shorter (arguments s) h.after rest h.numbers in
    omega (arith, whole, more, length-append (setting_name s) h.after)
