-- What the statuses of calls mean, as replies of the model.
use Rattle.std.specs.Prelude.{ℕ, ◌==◌, if◌then◌else◌}
use Rattle.guillotiere_c.specs.declared.plain.TheConstants.{DONE, NO_ROOM, BAD_CALL, NOT_LIVE, SLOTS, MEMORY}
use Rattle.guillotiere_c.specs.declared.plain.PlainAllocation.{PlainAllocation}
use Rattle.guillotiere_c.specs.Numbers.{allocation_in}
use Rattle.guillotiere.specs.declared.AtlasError.TheVariants.{Memory, Slots, NotLive}
use Rattle.guillotiere.specs.Replies.{grant_of}
use Rattle.guillotiere.specs.Steps.{AtlasReply}
use Rattle.guillotiere.specs.Steps.AtlasReply.{Allocated, NoRoom, Done, Refused, BadCall}

-- Of a call that gives nothing back. A status that it doesn't have stands for `NoRoom`, which is no reply to it.
abbrev pub plain_reply : ℕ → AtlasReply
plain_reply status =
    if status == DONE then Done
    else (if status == BAD_CALL then BadCall
    else (if status == NOT_LIVE then Refused NotLive
    else (if status == SLOTS then Refused Slots
    else (if status == MEMORY then Refused Memory else NoRoom))))

-- Of a request that wrote this. A status that it doesn't have stands for `Done`, which is no reply to it.
abbrev pub request_reply : ℕ → PlainAllocation → AtlasReply
request_reply status written =
    if status == DONE then Allocated (grant_of (allocation_in written))
    else (if status == NO_ROOM then NoRoom
    else (if status == NOT_LIVE then Refused NotLive
    else (if status == SLOTS then Refused Slots
    else (if status == MEMORY then Refused Memory else Done))))
