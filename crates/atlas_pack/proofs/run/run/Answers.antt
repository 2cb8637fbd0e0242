use Rattle.std.proofs.Common.{◌≡◌, List, ℕ, ◌∙◌, Err, inl, inr, rules, subst, sym}
use Rattle.std.proofs.lemmas.Result.{err_from_is_err_and}
use Rattle.std.specs.Io.KnownBytes.{Appends}
use Rattle.atlas_pack.specs.Runs.{IsPackAnswer}
use Rattle.atlas_pack.proofs.Inputs.{read_all}
use Rattle.atlas_pack.proofs.run.run.Goals as goal

pub returns-clause-packs : goal.returns-clause-packs
returns-clause-packs g c =
    let job = c.in_ok-job.job in
    record {
      input = c.deref.result.now;
      before = job.before;
      settings = job.settings;
      sprites = job.sprites.items;
      text = c.in_ok-told.told.items;
      read = read_all _ c.new-text.result.items c.read_to_end.new.buf.items _ c.in_ok-read_to_end.ensures.bytes c.new-text.ensures.items
          c.deref.ensures.value;
      asked = c.in_ok-job.ensures.asks;
      answered = subst (λ (many : ℕ). IsPackAnswer job.settings.pages job.settings job.sprites.items many c.in_ok-told.told.items)
          (sym (c.len.ensures ∙ c.in_ok-told.left.ok.0)) c.in_ok-told.ensures.packs;
      told = subst (λ (bytes : List ℕ). Appends (g.W.Write.contents c.args.output.now) (g.W.Write.contents c.write_all.new.self) bytes)
          c.deref-2.ensures.value c.in_ok-write_all.ensures.bytes;
    }

pub returns-in_err-read_to_end-clause-fault : goal.returns-in_err-read_to_end-clause-fault
returns-in_err-read_to_end-clause-fault g c =
    let p = err_from_is_err_and c.from_residual.result c.from_residual.ensures.1 in
    rw (p.1, p.2) (inr (inl tt))

pub returns-in_err-told-clause-fault : goal.returns-in_err-told-clause-fault
returns-in_err-told-clause-fault g c =
    let job = c.in_ok-job.job in
    let same : c.from_residual-in_err-told.result ≡ Err c.in_err-told.field-0.0 = search rules in
    rw same
    (inr (inr (record {
      input = c.deref.result.now;
      read = read_all _ c.new-text.result.items c.read_to_end.new.buf.items _ c.in_ok-read_to_end.ensures.bytes c.new-text.ensures.items
          c.deref.ensures.value;
      fault = inr (record {
        before = job.before;
        settings = job.settings;
        sprites = job.sprites.items;
        asked = c.in_ok-job.ensures.asks;
        fault = c.in_err-told.ensures.fault;
      });
    })))

pub returns-in_err-write_all-clause-fault : goal.returns-in_err-write_all-clause-fault
returns-in_err-write_all-clause-fault g c =
    let p = err_from_is_err_and c.from_residual-in_err-write_all.result c.from_residual-in_err-write_all.ensures.1 in
    rw (p.1, p.2) (inr (inl tt))
