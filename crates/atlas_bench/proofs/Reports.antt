-- Reports that are written one after another.
use Rattle.std.proofs.Common.{◌≡◌, ℕ, ◌+◌, ◌<◌, List, [], ◌∷◌, ◌++◌, Option, Some, None, IfSome, length, drop, get_or, refl, sym, ◌∙◌, ap}
use Rattle.std.proofs.Common.{subst, append_assoc, append-nil, add-one, drop-cons}
use Rattle.std.specs.Io.KnownBytes.{Appends}
use Rattle.atlas_words.proofs.Known.{Appends_twice}
use Rattle.atlas_words.specs.Devices.{HoldsBytes}
use Rattle.atlas_bench.specs.declared.answers.Answers.{Answers}
use Rattle.atlas_bench.specs.declared.workload.Job.{Job}
use Rattle.atlas_bench.specs.Reports.{report_text, Reports}
use Rattle.atlas_bench.specs.Workloads.{Makes}

-- The jobs before this index were reported.
pub record HasReported (jobs : List Job) (index : ℕ) (out_old out_new : Option (List ℕ)) : Type 0 where
  pub text : List ℕ
  pub written : Appends out_old out_new text
  pub others : (later : List ℕ) → Reports (drop index jobs) later → Reports jobs (text ++ later)

pub one_more : (jobs : List Job) (index : ℕ) (job : Job) (answers : Answers) (line : List ℕ)
    (old mid new : Option (List ℕ))
    → HasReported jobs index old mid → index < length jobs → get_or jobs index job ≡ job
    → Makes job.workload job.size answers.calls
    → line ≡ report_text job.workload answers → Appends mid new line → HasReported jobs (index + 1) old new
one_more jobs index job answers line old mid new before low at made is written =
    let front : drop index jobs ≡ job ∷ drop (index + 1) jobs = rw (add-one, drop-cons jobs index job, at) refl in
    record {
      text = before.text ++ line;
      written = Appends_twice old mid new before.text line before.written written;
      others = λ later reports.
          let P : List Job → Type 0 = λ rest. Reports rest (line ++ later) in
          let whole = before.others (line ++ later) (subst P (sym front)
          (answers, later, made, ap (λ (xs : List ℕ). xs ++ later) is, reports)) in
          subst (Reports jobs) (sym (append_assoc before.text line later)) whole;
    }

pub all_reported : (jobs : List Job) (index : ℕ) (old new : Option (List ℕ)) (before : HasReported jobs index old new)
    → drop index jobs ≡ [] → Reports jobs before.text
all_reported jobs index old new before end =
    let P : List Job → Type 0 = λ rest. Reports rest [] in
    subst (Reports jobs) (append-nil before.text) (before.others [] (subst P (sym end) refl))

-- What was read is all that there was.
pub read_all : (known : Option (List ℕ)) (before after bytes : List ℕ) → IfSome known (λ xs. after ≡ before ++ xs)
    → before ≡ [] → bytes ≡ after → HoldsBytes known bytes
read_all None before after bytes h e f = tt
read_all (Some xs) before after bytes h e f = sym (f ∙ h ∙ ap (λ (ys : List ℕ). ys ++ xs) e)
