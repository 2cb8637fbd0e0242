use Rattle.std.proofs.Common.{◌≡◌, [], drop, sym, ◌∙◌, rules}
use Rattle.std.proofs.lemmas.List.{drop_all}
use Rattle.atlas_bench.proofs.Reports.{one_more, all_reported, read_all}
use Rattle.atlas_bench.proofs.run.run.Goals as goal

pub loop-job-preserved : goal.loop-job-preserved
loop-job-preserved g c =
    one_more c.deref-job-items.result.now c.loop-job.job-index c.job-item.result c.in_ok-answers.answers c.as_bytes.result.now _
    (g.W.Write.contents c.loop-job.output) _
    c.loop-job.invariant c.loop-job-test.true (sym c.job-item.is) c.in_ok-answers.ensures (c.as_bytes.ensures.value ∙ c.in_ok-line.ensures)
    c.in_ok-write_all.ensures.bytes

pub returns : goal.returns
returns g c =
    let end : drop c.loop-job.job-index c.deref-job-items.result.now ≡ [] = search (rules, drop_all) in
    record {
      input = c.deref.result.now;
      jobs = c.deref-job-items.result.now;
      text = c.loop-job.invariant.text;
      read = read_all _ c.new-text.result.items c.read_to_end.new.buf.items _ c.in_ok-read_to_end.ensures.bytes c.new-text.ensures.items
          c.deref.ensures.value;
      spelled = search rules;
      reported = all_reported _ c.loop-job.job-index _ _ c.loop-job.invariant end;
      written = c.loop-job.invariant.written;
    }
