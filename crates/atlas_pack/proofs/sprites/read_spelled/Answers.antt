use Rattle.std.proofs.Common.{◌∙◌, inl, inr}
use Rattle.atlas_words.proofs.PartedWords.{one_word}
use Rattle.atlas_pack.proofs.sprites.read_spelled.Goals as goal

pub returns-clause-only : goal.returns-clause-only
returns-clause-only c name rest begins =
    elim begins [
      | inl plain ↦
          let same = one_word _ _ _ name rest c.first_word.ensures plain.word in
          (c.in_ok-from_slice.ensures.items ∙ same.0, same.1)
      | inr quoted ↦ absurd (c.in_default.ensures.only quoted.after quoted.whole)
    ]
