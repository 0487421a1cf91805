-- The summary of a run: a line on what was sent, and one on each stream. This project's own.
use Rattle.std.specs.Prelude.{ℕ, List, [], ◌++◌, Option, Some, None, codes}
use Rattle.std.specs.Fmt.{decimal}
use Rattle.std.specs.Int.{w64, to_be_bytes}
use Rattle.hex.specs.Hex.{encode_lower}
use Rattle.corr_model.specs.declared.verdict.Ending.{Ending}
use Rattle.corr_model.specs.declared.verdict.Ending.TheVariants.{End, Stop, Limit, Fault}
use Rattle.stream_feed.specs.declared.report.StreamReport.{StreamReport}
use Rattle.vis_send.specs.declared.tally.Sent.{Sent}

-- the 16 lower-case hexadecimal digits of a mark
abbrev pub mark_text : ℕ → List ℕ
mark_text mark = encode_lower (to_be_bytes w64 mark)

-- the line on what was sent
abbrev pub summary_text : Sent → List ℕ
summary_text s = codes "sent " ++ decimal s.packets ++ codes " packets " ++ decimal s.bytes ++ codes " bytes mark "
    ++ mark_text s.mark ++ codes "\n"

-- how a stream ended
abbrev pub ending_text : Option Ending → List ℕ
ending_text None = []
ending_text (Some End) = codes "end"
ending_text (Some Stop) = codes "stop"
ending_text (Some Limit) = codes "limit"
ending_text (Some Fault) = codes "fault"

-- the antenna of a stream, the byte strings taken, and how it ended
abbrev pub taken_text : ℕ → StreamReport → List ℕ
taken_text antenna r =
    codes "stream " ++ decimal antenna ++ codes " taken " ++ decimal r.taken ++ codes " ended " ++ ending_text r.ended

-- the counts of byte strings that gave no heap with samples
abbrev pub packet_counts : StreamReport → List ℕ
packet_counts r =
    codes " refused " ++ decimal r.refused
    ++ codes " dropped " ++ decimal r.dropped
    ++ codes " stale " ++ decimal r.stale
    ++ codes " evicted " ++ decimal r.evicted
    ++ codes " baddesc " ++ decimal r.baddesc
    ++ codes " undescribed " ++ decimal r.undescribed

-- the counts of heaps with samples, by antenna and timestamp
abbrev pub heap_counts : StreamReport → List ℕ
heap_counts r =
    codes " foreign " ++ decimal r.foreign
    ++ codes " before " ++ decimal r.before
    ++ codes " offgrid " ++ decimal r.offgrid
    ++ codes " wild " ++ decimal r.wild
    ++ codes " beyond " ++ decimal r.beyond
    ++ codes " late " ++ decimal r.late
    ++ codes " twice " ++ decimal r.twice
    ++ codes " used " ++ decimal r.used

-- the line on the stream of an antenna
abbrev pub stream_text : ℕ → StreamReport → List ℕ
stream_text antenna r = taken_text antenna r ++ packet_counts r ++ heap_counts r ++ codes "\n"
