use Rattle.corr_site.proofs.memory.list_sink.+string_at.Given as goal

-- proposed from what the function passes where it calls itself
abbrev pub decreases-string_at : goal.decreases-string_at
decreases-string_at l = l.number
