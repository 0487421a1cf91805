-- The keys of the settings are short.
use Rattle.std.proofs.Common.{◌≤◌, length, arith}
use Rattle.corr_settings.specs.declared.key.Key.{Key}
use Rattle.corr_settings.specs.declared.key.Key.TheVariants.{Antennas, Channels, Spectra, Heaps, Step, Start, Accumulations, Lag, Leap, Window, Slots, Workers, Packet, HeapLimit, PacketLimit, Preset, Inputs, Output}
use Rattle.corr_settings.specs.Table.{key_name}

-- no key has more than 13 bytes
pub key_short : (key : Key) → length (key_name key) ≤ 13
key_short Antennas = omega arith
key_short Channels = omega arith
key_short Spectra = omega arith
key_short Heaps = omega arith
key_short Step = omega arith
key_short Start = omega arith
key_short Accumulations = omega arith
key_short Lag = omega arith
key_short Leap = omega arith
key_short Window = omega arith
key_short Slots = omega arith
key_short Workers = omega arith
key_short Packet = omega arith
key_short HeapLimit = omega arith
key_short PacketLimit = omega arith
key_short Preset = omega arith
key_short Inputs = omega arith
key_short Output = omega arith
