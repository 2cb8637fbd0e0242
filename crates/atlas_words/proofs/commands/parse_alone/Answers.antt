use Rattle.std.proofs.Common.{rules}
use Rattle.atlas_words.proofs.Keywords.{only_live, only_holes, only_size, only_empty, only_clear, only_rearrange, only_from_atlas}
use Rattle.atlas_words.proofs.Keywords.{only_replay, ends_alone, no_keyword, no_bytes}
use Rattle.atlas_words.proofs.commands.parse_alone.Goals as goal

pub returns-then-not-is_empty-clause-only : goal.returns-then-not-is_empty-clause-only
returns-then-not-is_empty-clause-only c command alone parts = let none = ends_alone command _ alone parts.1 in absurd (search rules)

pub returns-then-eq-clause-only : goal.returns-then-eq-clause-only
returns-then-eq-clause-only c command alone parts =
    let is = (only_live command _ _ (search rules) parts).0 in
    cc

pub returns-then-eq-2-clause-only : goal.returns-then-eq-2-clause-only
returns-then-eq-2-clause-only c command alone parts =
    let is = (only_holes command _ _ (search rules) parts).0 in
    cc

pub returns-then-eq-3-clause-only : goal.returns-then-eq-3-clause-only
returns-then-eq-3-clause-only c command alone parts =
    let is = (only_size command _ _ (search rules) parts).0 in
    cc

pub returns-then-eq-4-clause-only : goal.returns-then-eq-4-clause-only
returns-then-eq-4-clause-only c command alone parts =
    let is = (only_empty command _ _ (search rules) parts).0 in
    cc

pub returns-then-eq-5-clause-only : goal.returns-then-eq-5-clause-only
returns-then-eq-5-clause-only c command alone parts =
    let is = (only_clear command _ _ (search rules) parts).0 in
    cc

pub returns-then-eq-6-clause-only : goal.returns-then-eq-6-clause-only
returns-then-eq-6-clause-only c command alone parts =
    let is = (only_rearrange command _ _ (search rules) parts).0 in
    cc

pub returns-then-eq-7-clause-only : goal.returns-then-eq-7-clause-only
returns-then-eq-7-clause-only c command alone parts =
    let is = (only_from_atlas command _ _ (search rules) parts).0 in
    cc

pub returns-then-eq-8-clause-only : goal.returns-then-eq-8-clause-only
returns-then-eq-8-clause-only c command alone parts =
    let is = (only_replay command _ _ (search rules) parts).0 in
    cc

pub returns-clause-only : goal.returns-clause-only
returns-clause-only c command alone parts =
    absurd (no_keyword command _ _ alone (search rules) (search rules) (search rules) (search rules) (search rules) (search rules)
    (search rules) (search rules) parts)

pub returns-then-eq-clause-found : goal.returns-then-eq-clause-found
returns-then-eq-clause-found c = (search rules, no_bytes _ (search rules))

pub returns-then-eq-2-clause-found : goal.returns-then-eq-2-clause-found
returns-then-eq-2-clause-found c = (search rules, no_bytes _ (search rules))

pub returns-then-eq-3-clause-found : goal.returns-then-eq-3-clause-found
returns-then-eq-3-clause-found c = (search rules, no_bytes _ (search rules))

pub returns-then-eq-4-clause-found : goal.returns-then-eq-4-clause-found
returns-then-eq-4-clause-found c = (search rules, no_bytes _ (search rules))

pub returns-then-eq-5-clause-found : goal.returns-then-eq-5-clause-found
returns-then-eq-5-clause-found c = (search rules, no_bytes _ (search rules))

pub returns-then-eq-6-clause-found : goal.returns-then-eq-6-clause-found
returns-then-eq-6-clause-found c = (search rules, no_bytes _ (search rules))

pub returns-then-eq-7-clause-found : goal.returns-then-eq-7-clause-found
returns-then-eq-7-clause-found c = (search rules, no_bytes _ (search rules))

pub returns-then-eq-8-clause-found : goal.returns-then-eq-8-clause-found
returns-then-eq-8-clause-found c = (search rules, no_bytes _ (search rules))
