-- What the statuses of calls of a simple allocator mean, as answers of the model.
use Rattle.std.specs.Prelude.{ℕ, ◌==◌, if◌then◌else◌}
use Rattle.guillotiere_c.specs.declared.plain.TheConstants.{DONE, NO_ROOM, BAD_CALL, NOT_LIVE, SLOTS, MEMORY}
use Rattle.guillotiere_c.specs.declared.plain.PlainRectangle.{PlainRectangle}
use Rattle.guillotiere_c.specs.Numbers.{corners_in}
use Rattle.guillotiere.specs.declared.AtlasError.TheVariants.{Memory, Slots, NotLive}
use Rattle.guillotiere.specs.Pixels.{box_of}
use Rattle.guillotiere.specs.Simple.{SimpleAnswer}
use Rattle.guillotiere.specs.Simple.SimpleAnswer.{Granted, NoRoom, Done, Refused, BadCall}

-- Of a call that gives nothing back. A status that it doesn't have stands for `NoRoom`, which is no answer to it.
abbrev pub plain_answer : ℕ → SimpleAnswer
plain_answer status =
    if status == DONE then Done
    else (if status == BAD_CALL then BadCall
    else (if status == NOT_LIVE then Refused NotLive
    else (if status == SLOTS then Refused Slots
    else (if status == MEMORY then Refused Memory else NoRoom))))

-- Of a request that wrote this. A status that it doesn't have stands for `Done`, which is no answer to it.
abbrev pub request_answer : ℕ → PlainRectangle → SimpleAnswer
request_answer status written =
    if status == DONE then Granted (box_of (corners_in written))
    else (if status == NO_ROOM then NoRoom
    else (if status == NOT_LIVE then Refused NotLive
    else (if status == SLOTS then Refused Slots
    else (if status == MEMORY then Refused Memory else Done))))
