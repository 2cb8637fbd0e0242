-- How a run ends, told of the lines of its input.
use Rattle.std.proofs.Common.{◌≡◌, ℕ, ◌+◌, ◌<◌, ◌≤◌, ◌≢◌, ◌⊎◌, inl, inr, List, [], ◌∷◌, ◌++◌, length, take, unwrap_or, Option, Some, None}
use Rattle.std.proofs.Common.{Result, Ok, Err, false, refl, sym, ap, ◌∙◌, subst, arith, append_assoc, append-nil, length-append}
use Rattle.std.proofs.lemmas.Bool.{cases_eq}
use Rattle.std.specs.List.{AllByRecursion}
use Rattle.std.specs.Io.KnownBytes.{Consumes, IsAtEnd}
use Rattle.atlas_lines.specs.declared.run.ToolEnd.{ToolEnd}
use Rattle.atlas_lines.specs.declared.run.ToolEnd.TheVariants.{Done, BadLine, Limit}
use Rattle.atlas_lines.specs.declared.run.ToolFault.{ToolFault}
use Rattle.atlas_lines.specs.declared.run.ToolFault.TheVariants.{Read, Write}
use Rattle.atlas_words.specs.Devices.{KeepsOrHides, HoldsBytes, WritesBeginning}
use Rattle.atlas_words.specs.Lines.{HasNoEnd, ended, all_ended, ArePieces, AreLines, last_line}
use Rattle.atlas_lines.specs.Machine.{ToolState, tool_state_of, at_start}
use Rattle.atlas_lines.specs.Replies.{bad_line_text}
use Rattle.atlas_lines.specs.Texts.{IsBadLine, LineOwes, OwesText}
use Rattle.atlas_lines.specs.Ends.{is_read_fault, is_write_fault, OwesFirst, OwesToBadLine, OwesBegun, OwesToBadRead, EndsAtEnd, EndsAtRead}
use Rattle.atlas_lines.specs.Ends.{EndsAtWrite, Ends}
use Rattle.atlas_lines.specs.Progress.{Place, state_at, place_at_start, Advances, IsCertainlyBad, MeetsBadLine, OwesBeginning, Stops}
use Rattle.atlas_lines.specs.Progress.{Continues, RepliesTo, LineEnds, HasRun, is_write_end}
use Rattle.atlas_words.proofs.Known.{Appends_none, Appends_twice, Consumes_none, Consumes_nothing, Consumes_twice, ReadsBeginning_kept}
use Rattle.atlas_words.proofs.Known.{WritesBeginning_after, Holds_at_end, Holds_with_rest}
use Rattle.atlas_words.proofs.Blocks.{gathered_all, written_all}
use Rattle.atlas_lines.proofs.Joins.{all_ended_twice, each_twice, owes_twice, advance_none, advance_twice, stops_after, meets_more}

-- The lines and the rest of some bytes.
pub record Parted (bytes : List ℕ) : Type 0 where
  pub lines : List (List ℕ)
  pub rest : List ℕ
  pub pieces : ArePieces bytes lines rest

with_end : (bytes : List ℕ) → Parted bytes → Parted (10 ∷ bytes)
with_end bytes p = record {
  lines = [] ∷ p.lines;
  rest = p.rest;
  pieces = record { whole = ap (λ t. 10 ∷ t) p.pieces.whole; each = (tt, p.pieces.each); partial = p.pieces.partial };
}

with_byte : (byte : ℕ) (bytes : List ℕ) (lines : List (List ℕ)) (rest : List ℕ) → byte ≢ 10 → ArePieces bytes lines rest
    → Parted (byte ∷ bytes)
with_byte byte bytes [] rest other p =
    record {
      lines = [];
      rest = byte ∷ rest;
      pieces = record { whole = ap (λ t. byte ∷ t) p.whole; each = tt; partial = (other, p.partial) };
    }
with_byte byte bytes (l ∷ ls) rest other p =
    record {
      lines = (byte ∷ l) ∷ ls;
      rest = rest;
      pieces = record { whole = ap (λ t. byte ∷ t) p.whole; each = ((other, p.each.0), p.each.1); partial = p.partial };
    }

-- All bytes have lines and a rest.
pub parted : (bytes : List ℕ) → Parted bytes
parted [] = record { lines = []; rest = []; pieces = record { whole = refl; each = tt; partial = tt } }
parted (byte ∷ bytes) =
    let p = parted bytes in
    elim (cases_eq byte 10) [
      | inl e ↦ subst (λ b. Parted (b ∷ bytes)) (sym e) (with_end bytes p)
      | inr other ↦ with_byte byte bytes p.lines p.rest other p.pieces
    ]

-- ---- the first lines of an input

-- Whole lines, and then whatever follows.
lines_then : (input after : List ℕ) (lines : List (List ℕ)) → input ≡ all_ended lines ++ after
    → AllByRecursion HasNoEnd lines → (p : Parted after)
    → AreLines input (lines ++ (p.lines ++ last_line p.rest))
lines_then input after lines whole each p = record {
  before = lines ++ p.lines;
  rest = p.rest;
  pieces = record {
    whole = whole ∙ ap (λ t. all_ended lines ++ t) p.pieces.whole ∙ sym (append_assoc (all_ended lines) (all_ended p.lines) p.rest) ∙
        ap (λ t. t ++ p.rest) (sym (all_ended_twice lines p.lines));
    each = each_twice HasNoEnd lines p.lines each p.pieces.each;
    partial = p.pieces.partial;
  };
  lines_are = sym (append_assoc lines p.lines (last_line p.rest));
}

first_owes : (input bytes later text : List ℕ) → input ≡ bytes ++ later → (o : OwesBeginning place_at_start bytes text)
    → (others : List (List ℕ)) × OwesFirst input o.advances.lines others text
first_owes input bytes later text e o =
    let after = o.new.line ++ (o.later ++ later) in
    let all = all_ended o.advances.lines in
    let whole : input ≡ all ++ after =
    e ∙ ap (λ t. t ++ later) o.whole ∙ append_assoc o.first o.later later ∙ ap (λ t. t ++ (o.later ++ later)) o.advances.whole ∙
    append_assoc all o.new.line (o.later ++ later) in
    let p = parted after in (
      p.lines ++ last_line p.rest,
      record {
        state = state_at o.new;
        lines_are = lines_then input after o.advances.lines whole o.advances.each
            p;
        owed = o.advances.owed;
      },
    )

-- ---- the first bad line of an input

-- A bad line with its LF.
bad_ended : (input bad more : List ℕ) (lines : List (List ℕ)) → input ≡ all_ended lines ++ (bad ++ 10 ∷ more)
    → AllByRecursion HasNoEnd lines → HasNoEnd bad
    → (others : List (List ℕ)) × AreLines input (lines ++ bad ∷ others)
bad_ended input bad more lines whole each no_end =
    let p = parted more in
    let q : Parted (bad ++ 10 ∷ more) = record {
      lines = bad ∷ p.lines;
      rest = p.rest;
      pieces = record {
        whole = ap (λ t. bad ++ 10 ∷ t) p.pieces.whole ∙ sym (append_assoc bad (10 ∷ []) (all_ended p.lines ++ p.rest)) ∙
            sym (append_assoc (ended bad) (all_ended p.lines) p.rest);
        each = (no_end, p.pieces.each);
        partial = p.pieces.partial;
      };
    } in
    (p.lines ++ last_line p.rest, lines_then input (bad ++ 10 ∷ more) lines whole each q)

some_last : (line : List ℕ) → 0 < length line → last_line line ≡ line ∷ []
some_last [] some = absurd (omega arith)
some_last (b ∷ bs) some = refl

-- A bad line of which at least its beginning is there.
bad_begun : (input bad after : List ℕ) (lines : List (List ℕ)) → input ≡ all_ended lines ++ (bad ++ after)
    → AllByRecursion HasNoEnd lines → HasNoEnd bad → 120 < length bad
    → (before : List (List ℕ)) (rest : List ℕ) → ArePieces after before rest
    → (line : List ℕ) × (others : List (List ℕ)) × (120 < length line) × AreLines input (lines ++ line ∷ others)
bad_begun input bad after lines whole each no_end long [] rest p =
    let q : Parted (bad ++ after) = record {
      lines = [];
      rest = bad ++ rest;
      pieces = record { whole = ap (λ t. bad ++ t) p.whole; each = tt; partial = each_twice (λ b. b ≢ 10) bad rest no_end p.partial };
    } in
    let more : 120 < length (bad ++ rest) = omega (arith, length-append bad rest) in (
      bad ++ rest,
      [],
      more,
      subst (λ ls. AreLines input (lines ++ ls)) (some_last (bad ++ rest) (omega arith))
          (lines_then input (bad ++ after) lines whole each q),
    )
bad_begun input bad after lines whole each no_end long (l ∷ ls) rest p =
    let q : Parted (bad ++ after) = record {
      lines = (bad ++ l) ∷ ls;
      rest = rest;
      pieces = record {
        whole = ap (λ t. bad ++ t) p.whole ∙ (simp append_assoc);
        each = (each_twice (λ b. b ≢ 10) bad l no_end p.each.0, p.each.1);
        partial = p.partial;
      };
    } in
    (bad ++ l, ls ++ last_line rest, omega (arith, length-append bad l), lines_then input (bad ++ after) lines whole each q)

bad_found : (input bad after : List ℕ) (lines : List (List ℕ)) → input ≡ all_ended lines ++ (bad ++ after)
    → AllByRecursion HasNoEnd lines → HasNoEnd bad → IsCertainlyBad bad after
    → (line : List ℕ) × (others : List (List ℕ)) × IsBadLine line × AreLines input (lines ++ line ∷ others)
bad_found input bad after lines whole each no_end (inl long) =
    let p = parted after in
    let f = bad_begun input bad after lines whole each no_end long p.lines p.rest p.pieces in
    (f.0, f.1, inl f.2, f.3)
bad_found input bad after lines whole each no_end (inr is) =
    let f = bad_ended input bad is.1 lines (whole ∙ ap (λ t. all_ended lines ++ (bad ++ t)) is.2) each no_end in
    (bad, f.0, is.0, f.1)

bad_owes : (input : List ℕ) (n : ℕ) (text : List ℕ) → MeetsBadLine place_at_start input n text
    → OwesToBadLine input n text
bad_owes input n text m =
    let f = bad_found input m.bad m.after m.lines m.whole m.each m.no_end m.certain in
    record {
      lines = m.lines;
      bad = f.0;
      others = f.1;
      before = m.before;
      owes = record { state = m.state; lines_are = f.3; owed = m.owed };
      is_bad = f.2;
      number_is = omega (arith, m.number_is);
      text_is = m.text_is;
    }

-- ---- the ends of a run

pub run_starts : (input output : Option (List ℕ)) (place : Place) → place ≡ place_at_start
    → HasRun input input output output place 0
run_starts input output place e =
    subst (λ p. HasRun input input output output p 0) (sym e)
    (record {
      bytes = [];
      text = [];
      read = Consumes_none input;
      counted = refl;
      advances = advance_none place_at_start;
      written =
          Appends_none output;
    })

pub no_end_at_start : (place : Place) → place ≡ place_at_start → HasNoEnd place.line
no_end_at_start place e = subst (λ (p : Place). HasNoEnd p.line) (sym e) tt

pub no_room_at_start : (place : Place) → place ≡ place_at_start → place.number + length place.line ≤ 0
no_room_at_start place e = subst (λ (p : Place). p.number + length p.line ≤ 0) (sym e) (omega arith)

-- One more block.
pub run_goes_on : (i j k o p q : Option (List ℕ)) (old new : Place) (block : List ℕ) (n m : ℕ) → HasRun i j o p old n
    → Consumes j k block → Continues None old block new p q [] [] → length block + n ≡ m
    → HasRun i k o q new m
run_goes_on i j k o p q old new block n m run read step count = record {
  bytes = run.bytes ++ block;
  text = run.text ++ step.0;
  read = Consumes_twice i j k run.bytes block run.read read;
  counted = omega (arith, length-append run.bytes block, run.counted);
  advances = advance_twice place_at_start old new run.bytes block run.text step.0 run.advances step.1;
  written = Appends_twice o p q run.text step.0 run.written (written_all p q step.0 step.2);
}

-- A write that failed.
write_ends : (i j o q : Option (List ℕ)) (bytes later text : List ℕ) → Consumes i j bytes
    → HoldsBytes i (bytes ++ later)
    → OwesBeginning place_at_start bytes text ⊎ ((number : ℕ) × MeetsBadLine place_at_start bytes number text)
    → WritesBeginning o q text → EndsAtWrite i j o q
write_ends i j o q bytes later text read holds (inl owes) written =
    let all = first_owes (bytes ++ later) bytes later text refl owes in
    let some = first_owes bytes bytes [] text (sym (append-nil bytes)) owes in
    record {
      bytes = bytes;
      unread = later;
      text = text;
      read = read;
      holds = holds;
      owes = inl (owes.advances.lines, record { others = all.0; others_read = some.0; owed = all.1; read = some.1 });
      written = written;
    }
write_ends i j o q bytes later text read holds (inr meets) written = record {
  bytes = bytes;
  unread = later;
  text = text;
  read = read;
  holds = holds;
  owes = inr (
    meets.0,
    record {
      owed = bad_owes (bytes ++ later) meets.0 text (meets_more place_at_start bytes later text meets.0 meets.1);
      read = bad_owes bytes meets.0 text meets.1;
    },
  );
  written = written;
}

stop_ends : (end : Result ToolEnd ToolFault) (i j o q : Option (List ℕ)) (bytes : List ℕ) → Consumes i j bytes
    → Stops end place_at_start bytes o q [] → Ends end i j o q
stop_ends (Ok (BadLine n)) i j o q bytes read stops =
    let all = Holds_with_rest i j bytes read in
    record {
      input = bytes ++ all.0;
      text = stops.0;
      holds = all.1;
      owes = bad_owes (bytes ++ all.0) n stops.0 (meets_more place_at_start bytes all.0 stops.0 n stops.1);
      written = stops.2;
    }
stop_ends (Err Write) i j o q bytes read stops =
    let all = Holds_with_rest i j bytes read in
    write_ends i j o q bytes all.0 stops.0 read all.1 stops.1 stops.2
stop_ends (Ok Done) i j o q bytes read stops = absurd stops
stop_ends (Ok Limit) i j o q bytes read stops = absurd stops
stop_ends (Err Read) i j o q bytes read stops = absurd stops

-- The run ended among the bytes of a block.
pub run_stops : (end : Result ToolEnd ToolFault) (i j k o p q : Option (List ℕ)) (old : Place) (block : List ℕ) (n : ℕ)
    → HasRun i j o p old n → Consumes j k block → Stops end old block p q []
    → Ends end i k o q
run_stops end i j k o p q old block n run read stops =
    stop_ends end i k o q (run.bytes ++ block) (Consumes_twice i j k run.bytes block run.read read)
    (stops_after end place_at_start old run.bytes block run.text o p q [] [] run.advances (gathered_all o p run.text run.written) stops)

-- ---- the reader's end

owes_last : (old new : ToolState) (line text : List ℕ) → LineOwes old line text new
    → OwesText old (last_line line) text new
owes_last old new [] text owed = owed
owes_last old new (b ∷ bs) text owed = (new, text, [], owed, (refl, refl), sym (append-nil text))

some_bad : (line : List ℕ) → IsBadLine line → last_line line ≡ line ∷ []
some_bad [] (inl long) = absurd (omega arith)
some_bad [] (inr bad) = absurd (bad.0 refl)
some_bad (b ∷ bs) bad = refl

-- The lines of an input that was read to its end.
all_lines : (bytes text : List ℕ) (place : Place) → Advances place_at_start bytes text place → HasNoEnd place.line
    → (a : Advances place_at_start bytes text place) → AreLines bytes (a.lines ++ last_line place.line)
all_lines bytes text place x no_end a = record {
  before = a.lines;
  rest = place.line;
  pieces =
      record { whole = a.whole; each = a.each; partial = no_end };
  lines_are = refl;
}

last_bad : (bytes text : List ℕ) (place : Place) (n : ℕ) → Advances place_at_start bytes text place
    → HasNoEnd place.line → IsBadLine place.line → n ≡ place.number + 1
    → OwesToBadLine bytes n (text ++ bad_line_text n)
last_bad bytes text place n a no_end bad number = record {
  lines = a.lines;
  bad = place.line;
  others = [];
  before = text;
  owes = record {
    state = state_at place;
    lines_are = subst (λ ls. AreLines bytes (a.lines ++ ls)) (some_bad place.line bad)
        (all_lines bytes text place a no_end a);
    owed = a.owed;
  };
  is_bad = bad;
  number_is = omega (arith, number, a.number);
  text_is = refl;
}

end_replied : (i j o p q : Option (List ℕ)) (place new : Place) (n : ℕ) → HasRun i j o p place n → IsAtEnd j
    → HasNoEnd place.line → RepliesTo place new p q [] [] → EndsAtEnd i j o q
end_replied i j o p q place new n run at_end no_end r = record {
  input = run.bytes;
  lines = run.advances.lines ++ last_line place.line;
  text = run.text ++ r.text;
  state = state_at new;
  holds = Holds_at_end i j run.bytes run.read at_end;
  at_end = at_end;
  lines_are = all_lines run.bytes run.text place run.advances no_end run.advances;
  owed = owes_twice at_start (state_at place) (state_at new) run.advances.lines (last_line place.line) run.text r.text run.advances.owed
      (owes_last (state_at place) (state_at new) place.line r.text r.owed);
  written = Appends_twice o p q run.text r.text run.written (written_all p q r.text r.gathered);
}

last_first : (bytes text more : List ℕ) (place : Place) (new : ToolState) (a : Advances place_at_start bytes text place)
    → HasNoEnd place.line → LineOwes (state_at place) place.line more new
    → OwesFirst bytes (a.lines ++ last_line place.line) [] (text ++ more)
last_first bytes text more place new a no_end owed = record {
  state = new;
  lines_are = subst (AreLines bytes) (sym (append-nil (a.lines ++ last_line place.line))) (all_lines bytes text place a no_end a);
  owed = owes_twice at_start (state_at place) new a.lines (last_line place.line) text more a.owed
      (owes_last (state_at place) new place.line more owed);
}

-- What holds of the bytes read holds of the whole input, where nothing is unread.
begun_at_end : (bytes : List ℕ) (lines others : List (List ℕ)) (text : List ℕ) → OwesFirst bytes lines others text
    → OwesBegun bytes [] lines text
begun_at_end bytes lines others text owed =
    let P : List ℕ → Type 0 = λ input. OwesFirst input lines others text in
    record { others = others; others_read = others; owed = subst P (sym (append-nil bytes)) owed; read = owed }

bad_at_end : (bytes : List ℕ) (n : ℕ) (text : List ℕ) → OwesToBadLine bytes n text → OwesToBadRead bytes [] n text
bad_at_end bytes n text owed =
    let P : List ℕ → Type 0 = λ input. OwesToBadLine input n text in
    record { owed = subst P (sym (append-nil bytes)) owed; read = owed }

holds_at_end : (i j : Option (List ℕ)) (bytes : List ℕ) → Consumes i j bytes → IsAtEnd j → HoldsBytes i (bytes ++ [])
holds_at_end i j bytes read at_end = subst (HoldsBytes i) (sym (append-nil bytes)) (Holds_at_end i j bytes read at_end)

end_stopped : (end : Result ToolEnd ToolFault) (i j o p q : Option (List ℕ)) (place new : Place) (n : ℕ)
    → HasRun i j o p place n → IsAtEnd j → HasNoEnd place.line → LineEnds (Some end) place new p q [] []
    → Ends end i j o q
end_stopped (Ok (BadLine m)) i j o p q place new n run at_end no_end (inl bad) = record {
  input = run.bytes;
  text = run.text ++ bad_line_text m;
  holds = Holds_at_end i j run.bytes run.read at_end;
  owes = last_bad run.bytes run.text place m run.advances no_end bad.0 bad.1.0;
  written = Appends_twice o p q run.text (bad_line_text m) run.written bad.1.1;
}
end_stopped (Ok (BadLine m)) i j o p q place new n run at_end no_end (inr reply) = absurd (let e = reply.0 in cc)
end_stopped (Ok Done) i j o p q place new n run at_end no_end (inl bad) = absurd bad.1
end_stopped (Ok Done) i j o p q place new n run at_end no_end (inr reply) = absurd (let e = reply.0 in cc)
end_stopped (Ok Limit) i j o p q place new n run at_end no_end (inl bad) = absurd bad.1
end_stopped (Ok Limit) i j o p q place new n run at_end no_end (inr reply) = absurd (let e = reply.0 in cc)
end_stopped (Err Read) i j o p q place new n run at_end no_end (inl bad) = absurd bad.1
end_stopped (Err Read) i j o p q place new n run at_end no_end (inr reply) = absurd (let e = reply.0 in cc)
end_stopped (Err Write) i j o p q place new n run at_end no_end (inl bad) = record {
  bytes = run.bytes;
  unread = [];
  text = run.text ++ bad_line_text (place.number + 1);
  read = run.read;
  holds = holds_at_end i j run.bytes run.read at_end;
  owes = inr (
    place.number + 1,
    bad_at_end run.bytes (place.number + 1) (run.text ++ bad_line_text (place.number + 1))
        (last_bad run.bytes run.text place (place.number + 1) run.advances no_end bad.0 refl),
  );
  written = WritesBeginning_after o p q run.text (bad_line_text (place.number + 1)) run.written bad.1;
}
end_stopped (Err Write) i j o p q place new n run at_end no_end (inr reply) =
    let lines = run.advances.lines ++ last_line place.line in
    record {
      bytes = run.bytes;
      unread = [];
      text = run.text ++ reply.1.text;
      read = run.read;
      holds = holds_at_end i j run.bytes run.read at_end;
      owes = inl (
        lines,
        begun_at_end run.bytes lines [] (run.text ++ reply.1.text)
            (last_first run.bytes run.text reply.1.text place (tool_state_of reply.1.held) run.advances no_end reply.1.owed),
      );
      written = WritesBeginning_after o p q run.text reply.1.text run.written reply.1.written;
    }

last_line_ends : (end : Option (Result ToolEnd ToolFault)) (i j o p q : Option (List ℕ)) (place new : Place) (n : ℕ)
    → HasRun i j o p place n → IsAtEnd j → HasNoEnd place.line → LineEnds end place new p q [] []
    → Ends (unwrap_or end (Ok Done)) i j o q
last_line_ends None i j o p q place new n run at_end no_end r = end_replied i j o p q place new n run at_end no_end r
last_line_ends (Some end) i j o p q place new n run at_end no_end r = end_stopped end i j o p q place new n run at_end no_end r

-- At the reader's end, where the last line may lack its LF.
pub input_ends : (result : Result ToolEnd ToolFault) (end : Option (Result ToolEnd ToolFault))
    (i j k o p q : Option (List ℕ)) (place new : Place) (n count : ℕ) (buffer : List ℕ)
    → result ≡ unwrap_or end (Ok Done) → HasRun i j o p place n → count ≡ 0 → Consumes j k (take count buffer)
    → IsAtEnd k → HasNoEnd place.line → LineEnds end place new p q [] [] → Ends result i k o q
input_ends result end i j k o p q place new n count buffer is run zero read at_end no_end ends =
    let here : HasRun i k o p place n = record {
      bytes = run.bytes;
      text = run.text;
      read = Consumes_nothing i j k run.bytes count buffer zero run.read read;
      counted = run.counted;
      advances = run.advances;
      written = run.written;
    } in
    let P : Result ToolEnd ToolFault → Type 0 = λ r. Ends r i k o q in
    subst P (sym is) (last_line_ends end i k o p q place new n here at_end no_end ends)

-- A run that was answered in full or in part isn't one that ended at a read.
pub end_not_read : (end : Option (Result ToolEnd ToolFault)) (place new : Place) (p q : Option (List ℕ))
    (before : List ℕ)
    → LineEnds end place new p q before [] → is_read_fault (unwrap_or end (Ok Done)) ≡ false
end_not_read None place new p q before ends = refl
end_not_read (Some (Ok end)) place new p q before ends = refl
end_not_read (Some (Err Write)) place new p q before ends = refl
end_not_read (Some (Err Read)) place new p q before (inl bad) = absurd bad.1
end_not_read (Some (Err Read)) place new p q before (inr reply) = absurd (let e = reply.0 in cc)

pub end_is_write : (end : Option (Result ToolEnd ToolFault))
    → is_write_end end ≡ is_write_fault (unwrap_or end (Ok Done))
end_is_write None = refl
end_is_write (Some end) = refl

pub stop_not_read : (end : Result ToolEnd ToolFault) (place : Place) (bytes : List ℕ) (p q : Option (List ℕ))
    (before : List ℕ)
    → Stops end place bytes p q before → is_read_fault end ≡ false
stop_not_read (Ok end) place bytes p q before stops = refl
stop_not_read (Err Write) place bytes p q before stops = refl
stop_not_read (Err Read) place bytes p q before stops = absurd stops

-- A read that failed.
pub read_ends : (i j k o p : Option (List ℕ)) (place : Place) (n : ℕ) → HasRun i j o p place n → KeepsOrHides j k
    → HasNoEnd place.line
    → length place.line ≤ 120 → EndsAtRead i k o p
read_ends i j k o p place n run kept no_end short = record {
  bytes = run.bytes;
  text = run.text;
  read = ReadsBeginning_kept i j k run.bytes run.read kept;
  owes = record {
    lines = run.advances.lines;
    rest = place.line;
    state = state_at place;
    pieces =
        record { whole = run.advances.whole; each = run.advances.each; partial = no_end };
    short = short;
    owed = run.advances.owed;
  };
  written = run.written;
}
