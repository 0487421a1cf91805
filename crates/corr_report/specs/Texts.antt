-- The texts that the program prints of its own run. Each line ends with a line feed. This project's own.
use Rattle.std.specs.Prelude.{ℕ, ℤ, List, ◌++◌, codes}
use Rattle.std.specs.Fmt.{decimal, signed_decimal}
use Rattle.corr_settings.specs.declared.key.Key.{Key}
use Rattle.corr_settings.specs.declared.refusal.SetRefusal.{SetRefusal}
use Rattle.corr_settings.specs.declared.refusal.SetRefusal.TheVariants as refusal
use Rattle.corr_settings.specs.Table.{key_name}
use Rattle.corr_report.specs.declared.status.StatusLine.{StatusLine}
use Rattle.corr_report.specs.declared.status.StatusLine.TheVariants.{Sent, Simulated, Relayed, SourceFault, SinkFault, NoMemory, SettingsFault}

-- what was done, and to how many packets
abbrev pub packets_text : List ℕ → ℕ → List ℕ
packets_text done packets = done ++ decimal packets ++ codes " packets\n"

-- the line of a status
abbrev pub status_text : StatusLine → List ℕ
status_text (Sent packets) = packets_text (codes "sent ") packets
status_text (Simulated packets) = packets_text (codes "simulated ") packets
status_text (Relayed packets) = packets_text (codes "relayed ") packets
status_text (SourceFault antenna) = codes "source fault " ++ decimal antenna ++ codes "\n"
status_text SinkFault = codes "sink fault\n"
status_text NoMemory = codes "no memory\n"
status_text SettingsFault = codes "settings source fault\n"

-- what is wrong, and with which key
abbrev pub key_text : List ℕ → Key → List ℕ
key_text wrong key = wrong ++ key_name key ++ codes "\n"

-- the key and the value that is out of its range
abbrev pub range_text : Key → ℤ → List ℕ
range_text key value = codes "settings: range " ++ key_name key ++ codes " " ++ signed_decimal value ++ codes "\n"

-- the line on refused settings
abbrev pub settings_text : SetRefusal → List ℕ
settings_text refusal.TooLong = codes "settings: too long\n"
settings_text refusal.NotToml = codes "settings: not TOML\n"
settings_text (refusal.Missing key) = key_text (codes "settings: missing ") key
settings_text (refusal.Kind key) = key_text (codes "settings: kind ") key
settings_text (refusal.Range key value) = range_text key value
settings_text (refusal.Unknown name) = codes "settings: unknown " ++ name ++ codes "\n"
settings_text (refusal.TooLarge bytes) = codes "settings: too large " ++ decimal bytes ++ codes "\n"
settings_text refusal.NoMemory = codes "no memory\n"

-- the line on a datagram that was refused: its number and the name of the cause
abbrev pub refused_text : ℕ → List ℕ → List ℕ
refused_text place name = codes "refused " ++ decimal place ++ codes " " ++ name ++ codes "\n"

-- the lines on how the program is called
unfoldable pub usage_text : List ℕ
usage_text =
    codes "usage:\n"
    ++ codes "spead_corr plain A F S T N IN.. OUT\n"
    ++ codes "spead_corr correlate [--serial] CONFIG\n"
    ++ codes "spead_corr trial [--serial] CONFIG SEED\n"
    ++ codes "spead_corr simulate CONFIG SEED ANTENNA OUT\n"
    ++ codes "spead_corr relay FROM TO LIMIT\n"
    ++ codes "spead_corr inspect IN\n"
    ++ codes "spead_corr decode IN LIMIT\n"
