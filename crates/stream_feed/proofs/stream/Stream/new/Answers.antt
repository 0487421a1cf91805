use Rattle.stream_feed.proofs.StandLemmas.{stands_new}
use Rattle.stream_feed.proofs.stream.Stream.new.Goals as goal

pub returns-clause-stands : goal.returns-clause-stands
returns-clause-stands c =
    stands_new c.args.plan.now c.args.antenna _ _ _ _ _ c.requires.fits
    (record {
      width = c.in_ok-new.ensures.window;
      limit = c.in_ok-new.ensures.limit;
      stands = c.in_ok-new.ensures.stands;
    }) c.table_of.ensures c.new-2.ensures c.in_ok-new-2.ensures
    c.new-4.ensures.counts c.new-4.ensures.ended
