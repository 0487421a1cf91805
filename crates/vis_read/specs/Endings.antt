-- How a list of datagrams ends, by the answers to them. This project's own.
use Rattle.std.specs.Prelude.{Bool, true, false, if◌then◌else◌, List, map, Option, Some, None}
use Rattle.std.specs.Option.{option_or}
use Rattle.std.specs.List.{list_any}
use Rattle.vis_read.specs.declared.cause.ReadCause.{ReadCause}
use Rattle.vis_read.specs.declared.cause.ReadCause.TheVariants as causes
use Rattle.vis_read.specs.Readings.{Answer, Nothing, Head, Heap, Stop, Refused, first_some}

-- the cause of a refusal
abbrev pub cause_in : Answer → Option ReadCause
cause_in Nothing = None
cause_in (Head sizes) = None
cause_in (Heap view) = None
cause_in Stop = None
cause_in (Refused cause) = Some cause

-- the stop heap is whole by it
abbrev pub is_stop : Answer → Bool
is_stop Nothing = false
is_stop (Head sizes) = false
is_stop (Heap view) = false
is_stop Stop = true
is_stop (Refused cause) = false

-- the cause of the first refusal among these answers
abbrev pub first_cause : List Answer → Option ReadCause
first_cause answers = first_some (map cause_in answers)

-- why datagrams with these answers are no whole output: the cause of the first refusal, or that no stop is among them
abbrev pub end_by : List Answer → Option ReadCause
end_by answers = option_or (first_cause answers) (if list_any is_stop answers then None else Some causes.NoStop)
