use Rattle.std.proofs.Common.{◌≡◌, ◌++◌, ℕ, List, [], ◌∷◌, flat_map, rules, ap, sym, subst, ◌∙◌}
use Rattle.std.proofs.lemmas.List.{append-nil}
use Rattle.atlas_pack.specs.declared.quoted.Piece.{Piece}
use Rattle.atlas_pack.specs.Quoted.{SpellsPieces, piece_bytes}
use Rattle.atlas_pack.proofs.QuotedTexts.{end_of, joined, next_piece_of, parted, piece_shorter}
use Rattle.atlas_pack.proofs.quoted.read_quoted.Goals as goal

pub loop-piece-preserved : goal.loop-piece-preserved
loop-piece-preserved c =
    let pushed : c.push.new.name.items ≡ c.loop-piece.name.items ++ piece_bytes c.in-Some.piece = search rules in
    record {
      found = λ more end spells.
          let all = c.loop-piece.invariant.found (c.in-Some.piece ∷ more) end (c.in-Some.after.now, c.in-Some.ensures.found, spells) in
          (all.0, all.1, joined c.loop-piece.name.items _ (piece_bytes c.in-Some.piece) (flat_map piece_bytes more) _ pushed all.2);
      only = λ all end spells.
          let more = c.loop-piece.invariant.only all end spells in
          let next = next_piece_of more.0 _ end _ _ more.1 c.in-Some.ensures.found in
          let read = c.in-Some.ensures.only next.0 next.2 next.4 in (
            next.1,
            subst (λ (t : List ℕ). SpellsPieces next.1 t end) (sym read.1) next.5,
            parted c.loop-piece.name.items _ _ more.0 next.1 _ next.0 pushed read.0 next.3 more.2,
          );
    }

pub loop-piece-smaller : goal.loop-piece-smaller
loop-piece-smaller c = piece_shorter _ _ _ c.in-Some.ensures.found

pub returns-in-Some-after-clause-found : goal.returns-in-Some-after-clause-found
returns-in-Some-after-clause-found c =
    let all = c.loop-piece.invariant.found [] c.in-Some-after.end.now c.in-Some-after.ensures.found in
    (all.0, all.1, sym (append-nil _) ∙ sym all.2)

pub returns-in-Some-after-clause-only : goal.returns-in-Some-after-clause-only
returns-in-Some-after-clause-only c name rest ends =
    let more = c.loop-piece.invariant.only ends.0 rest ends.1 in
    let stop = end_of more.0 _ rest more.1 c.in_default.ensures.only in (
      sym (ends.2 ∙ more.2 ∙ ap (λ (ps : List Piece). c.loop-piece.name.items ++ flat_map piece_bytes ps) stop.0 ∙ append-nil _),
      c.in-Some-after.ensures.only rest stop.1,
    )

pub returns-clause-only : goal.returns-clause-only
returns-clause-only c name rest ends =
    let more = c.loop-piece.invariant.only ends.0 rest ends.1 in
    let stop = end_of more.0 _ rest more.1 c.in_default.ensures.only in
    absurd (c.in-None.ensures.only rest stop.1)
