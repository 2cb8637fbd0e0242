use Rattle.std.proofs.Common.{rules}
use Rattle.atlas_words.proofs.Keywords.{only_simple, only_take, only_atlas, only_alloc, only_free, only_grow, only_resize, only_record}
use Rattle.atlas_words.proofs.Keywords.{stands_alone}
use Rattle.atlas_words.proofs.commands.parse_words.Goals as goal

pub returns-in_err-size_arguments-clause-only : goal.returns-in_err-size_arguments-clause-only
returns-in_err-size_arguments-clause-only c command parts =
    let only = only_simple command _ _ (search rules) parts in
    let read = c.in_err-size_arguments.ensures.only only.0 only.2 in
    absurd (cc)

pub returns-then-eq-clause-only : goal.returns-then-eq-clause-only
returns-then-eq-clause-only c command parts =
    let only = only_simple command _ _ (search rules) parts in
    let read = c.in_ok-size_arguments.ensures.only only.0 only.2 in
    let is = only.1 in
    cc

pub returns-in_err-size_arguments-2-clause-only : goal.returns-in_err-size_arguments-2-clause-only
returns-in_err-size_arguments-2-clause-only c command parts =
    let only = only_take command _ _ (search rules) parts in
    let read = c.in_err-size_arguments-2.ensures.only only.0 only.2 in
    absurd (cc)

pub returns-then-eq-2-clause-only : goal.returns-then-eq-2-clause-only
returns-then-eq-2-clause-only c command parts =
    let only = only_take command _ _ (search rules) parts in
    let read = c.in_ok-size_arguments-2.ensures.only only.0 only.2 in
    let is = only.1 in
    cc

pub returns-in_err-size-clause-only : goal.returns-in_err-size-clause-only
returns-in_err-size-clause-only c command parts =
    let only = only_atlas command _ _ (search rules) parts in
    let read = c.in_err-size.ensures.only only.0 only.1 only.3 in
    absurd read

pub returns-then-eq-3-clause-only : goal.returns-then-eq-3-clause-only
returns-then-eq-3-clause-only c command parts =
    let only = only_atlas command _ _ (search rules) parts in
    let read = c.in_ok-size.ensures.only only.0 only.1 only.3 in
    let is = only.2 in
    let size = read.0 in
    let options = read.1 in
    cc

pub returns-in_err-size_arguments-3-clause-only : goal.returns-in_err-size_arguments-3-clause-only
returns-in_err-size_arguments-3-clause-only c command parts =
    let only = only_alloc command _ _ (search rules) parts in
    let read = c.in_err-size_arguments-3.ensures.only only.0 only.2 in
    absurd (cc)

pub returns-then-eq-4-clause-only : goal.returns-then-eq-4-clause-only
returns-then-eq-4-clause-only c command parts =
    let only = only_alloc command _ _ (search rules) parts in
    let read = c.in_ok-size_arguments-3.ensures.only only.0 only.2 in
    let is = only.1 in
    cc

pub returns-in_err-id_argument-clause-only : goal.returns-in_err-id_argument-clause-only
returns-in_err-id_argument-clause-only c command parts =
    let only = only_free command _ _ (search rules) parts in
    let read = c.in_err-id_argument.ensures.only only.0 only.2 in
    absurd (cc)

pub returns-then-eq-5-clause-only : goal.returns-then-eq-5-clause-only
returns-then-eq-5-clause-only c command parts =
    let only = only_free command _ _ (search rules) parts in
    let read = c.in_ok-id_argument.ensures.only only.0 only.2 in
    let is = only.1 in
    cc

pub returns-in_err-size_arguments-4-clause-only : goal.returns-in_err-size_arguments-4-clause-only
returns-in_err-size_arguments-4-clause-only c command parts =
    let only = only_grow command _ _ (search rules) parts in
    let read = c.in_err-size_arguments-4.ensures.only only.0 only.2 in
    absurd (cc)

pub returns-then-eq-6-clause-only : goal.returns-then-eq-6-clause-only
returns-then-eq-6-clause-only c command parts =
    let only = only_grow command _ _ (search rules) parts in
    let read = c.in_ok-size_arguments-4.ensures.only only.0 only.2 in
    let is = only.1 in
    cc

pub returns-in_err-size_arguments-5-clause-only : goal.returns-in_err-size_arguments-5-clause-only
returns-in_err-size_arguments-5-clause-only c command parts =
    let only = only_resize command _ _ (search rules) parts in
    let read = c.in_err-size_arguments-5.ensures.only only.0 only.2 in
    absurd (cc)

pub returns-then-eq-7-clause-only : goal.returns-then-eq-7-clause-only
returns-then-eq-7-clause-only c command parts =
    let only = only_resize command _ _ (search rules) parts in
    let read = c.in_ok-size_arguments-5.ensures.only only.0 only.2 in
    let is = only.1 in
    cc

pub returns-in_err-size_arguments-6-clause-only : goal.returns-in_err-size_arguments-6-clause-only
returns-in_err-size_arguments-6-clause-only c command parts =
    let only = only_record command _ _ (search rules) parts in
    let read = c.in_err-size_arguments-6.ensures.only only.0 only.2 in
    absurd (cc)

pub returns-then-eq-8-clause-only : goal.returns-then-eq-8-clause-only
returns-then-eq-8-clause-only c command parts =
    let only = only_record command _ _ (search rules) parts in
    let read = c.in_ok-size_arguments-6.ensures.only only.0 only.2 in
    let is = only.1 in
    cc

pub returns-clause-only : goal.returns-clause-only
returns-clause-only c command parts =
    c.parse_alone.ensures.only command
    (stands_alone command _ _ (search rules) (search rules) (search rules) (search rules) (search rules) (search rules) (search rules)
    (search rules) parts) parts
