-- The place that a word of a command line or of the settings names. This project's own.
use Rattle.std.specs.Prelude.{ℕ, List, drop, true, false, nat_eq, codes, if◌then◌else◌}
use Rattle.std.specs.List.{starts_with}
use Rattle.corr_site.specs.declared.place.Place.{Place}

-- a UDP address after 'udp:', and else the file of that path
abbrev pub place_of : List ℕ → Place
place_of word =
    if starts_with nat_eq word (codes "udp:") then record { udp = true; text = drop 4 word }
    else record { udp = false; text = word }
