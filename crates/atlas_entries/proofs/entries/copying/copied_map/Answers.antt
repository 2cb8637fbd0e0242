use Rattle.std.proofs.Common.{◌≡◌, ◌∙◌, ℕ, None, Some, ap, map, rules, sym}
use Rattle.std.specs.HashMap.{get}
use Rattle.std.specs.Map.{update, update_all}
use Rattle.std.specs.Map.Iter.{deref_pair}
use Rattle.std.proofs.lemmas.List.{map_push}
use Rattle.std.proofs.lemmas.Map.{update_all_push}
use Rattle.std.proofs.lemmas.Map.Iter.{iter_end}
use Rattle.atlas_entries.proofs.CopyLemmas.{copied-alike, copied-len}
use Rattle.atlas_entries.proofs.entries.copying.copied_map.Goals as goal

pub loop-key-preserved : goal.loop-key-preserved
loop-key-preserved g c = λ q.
    let eq = g.K.PartialEq.eq in
    let given = map deref_pair c.loop-key.yielded in
    let one : g.row.K.Denot × ℕ = (c.in-Some.key.now, c.in-Some.number.now) in
    let put : get eq c.insert.new.self q ≡ update eq (get eq c.loop-key.copy) one.0 (Some one.1) q = search rules in
    put
    ∙ update_all_push eq (λ _. None) (get eq c.loop-key.copy) given one q (c.loop-key.invariant q)
    ∙ ap (λ es. update_all eq (λ _. None) es q) (sym (map_push deref_pair c.loop-key.yielded (c.in-Some.key, c.in-Some.number)))

pub returns-clause-same : goal.returns-clause-same
returns-clause-same g c =
    let all : map deref_pair c.loop-key.yielded ≡ c.args.map.now.entries = search (rules, iter_end) in
    copied-alike g.met.K.Eq.laws c.args.map.now c.loop-key.copy c.len.ensures.unique (map deref_pair c.loop-key.yielded) all
    c.loop-key.invariant

pub returns-clause-held : goal.returns-clause-held
returns-clause-held g c =
    copied-len g.met.K.Eq.laws c.args.map.now c.loop-key.copy c.len.ensures.unique (returns-clause-same g c)
