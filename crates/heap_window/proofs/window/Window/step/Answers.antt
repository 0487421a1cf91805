use Rattle.std.proofs.Common.{◌∙◌}
use Rattle.heap_window.proofs.window.Window.step.Goals as goal

pub invariant_of-self-in-None : goal.invariant_of-self-in-None
invariant_of-self-in-None c =
    let sound = c.self.invariant in
    let opened = c.open.ensures in
    record {
      least = sound.least;
      most = sound.most;
      capacity = opened.capacity ∙ sound.capacity;
      room = opened.room;
      limits = opened.limits c.self.inside.limit sound.limits sound.spares;
      spares = opened.spares c.self.inside.limit sound.spares;
    }
