use Rattle.std.specs.Prelude.{◌≡◌, ◌≤◌, take}
use Rattle.corr_site.specs.Memory.{least_call}
use Rattle.corr_site.proofs.memory.fault_plan.FaultPlan.least_of.Given as goal

abbrev pub invariant-loop-call : goal.invariant-loop-call
invariant-loop-call l = record {
  is : l.least ≡ least_call l.len (take l.call-index l.call-items);
  within : l.least ≤ l.len;
}
