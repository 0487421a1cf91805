use Rattle.std.proofs.Common.{◌≡◌, length, take, min, ap, ◌∙◌, arith}
use Rattle.std.proofs.lemmas.List.{take_min}
use Rattle.spead_types.proofs.reading.read_name.Goals as goal

pub returns : goal.returns
returns c =
    let bytes = c.args.bytes.now in
    let few : c.min.result ≡ min 64 (length bytes) = omega arith in
    c.new.ensures ∙ ap (λ n. take n bytes) few ∙ take_min 64 bytes
