-- What a report counts. This project's own.
use Rattle.std.specs.Prelude.{◌*◌, ◌≤◌, ◌^◌}
use Rattle.corr_model.specs.PacketVerdicts.{Report}
use Rattle.stream_feed.specs.declared.report.StreamReport.{StreamReport}

-- the counts of the report
abbrev pub counts_of : StreamReport → Report
counts_of r = record {
  taken = r.taken;
  refused = r.refused;
  dropped = r.dropped;
  stale = r.stale;
  evicted = r.evicted;
  baddesc = r.baddesc;
  undescribed = r.undescribed;
  foreign = r.foreign;
  before = r.before;
  offgrid = r.offgrid;
  wild = r.wild;
  beyond = r.beyond;
  late = r.late;
  twice = r.twice;
  used = r.used;
}

-- a report in which nothing is counted
abbrev pub nothing : Report
nothing = record {
  taken = 0;
  refused = 0;
  dropped = 0;
  stale = 0;
  evicted = 0;
  baddesc = 0;
  undescribed = 0;
  foreign = 0;
  before = 0;
  offgrid = 0;
  wild = 0;
  beyond = 0;
  late = 0;
  twice = 0;
  used = 0;
}

-- nothing is counted more often than strings are taken, and of a string at most 64 descriptors
pub record AreFew (r : StreamReport) : Type 0 where
  pub taken : r.taken ≤ 2 ^ 40
  pub refused : r.refused ≤ r.taken
  pub dropped : r.dropped ≤ r.taken
  pub stale : r.stale ≤ r.taken
  pub evicted : r.evicted ≤ r.taken
  pub baddesc : r.baddesc ≤ 64 * r.taken
  pub undescribed : r.undescribed ≤ r.taken
  pub foreign : r.foreign ≤ r.taken
  pub before : r.before ≤ r.taken
  pub offgrid : r.offgrid ≤ r.taken
  pub wild : r.wild ≤ r.taken
  pub beyond : r.beyond ≤ r.taken
  pub late : r.late ≤ r.taken
  pub twice : r.twice ≤ r.taken
  pub used : r.used ≤ r.taken
