-- Lines that name sprites, one after another.
use Rattle.std.proofs.Common.{◌≡◌, ℕ, List, [], ◌∷◌, ◌++◌, string_bytes, refl, sym, subst}
use Rattle.atlas_words.specs.Lines.{BeginsWithLine}
use Rattle.atlas_pack.specs.declared.sprites.Sprite.{Sprite}
use Rattle.atlas_pack.specs.Sprites.{BeginsWithSprites, SpellsSprite}

-- One more line names a sprite.
pub one_more : (sprites : List Sprite) (text rest line after : List ℕ) (sprite : Sprite)
    → BeginsWithSprites sprites text rest
    → BeginsWithLine rest line after → SpellsSprite (string_bytes sprite.name) sprite.size line
    → BeginsWithSprites (sprites ++ sprite ∷ []) text after
one_more [] text rest line after sprite e begins spells =
    (line, after, subst (λ (t : List ℕ). BeginsWithLine t line after) (sym e) begins, spells, refl)
one_more (first ∷ others) text rest line after sprite h begins spells =
    (h.0, h.1, h.2, h.3, one_more others h.1 rest line after sprite h.4 begins spells)

-- The same, where what was read is known by equations.
pub one_more_of : (sprites more : List Sprite) (text rest line after : List ℕ) (sprite : Sprite)
    → more ≡ sprites ++ sprite ∷ []
    → BeginsWithSprites sprites text rest → BeginsWithLine rest line after
    → SpellsSprite (string_bytes sprite.name) sprite.size line
    → BeginsWithSprites more text after
one_more_of sprites more text rest line after sprite e h begins spells =
    subst (λ (all : List Sprite). BeginsWithSprites all text after) (sym e) (one_more sprites text rest line after sprite h begins spells)
