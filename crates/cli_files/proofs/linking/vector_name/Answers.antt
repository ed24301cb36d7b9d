use Rattle.std.proofs.Common.{Some, None, ap, ◌∙◌}
use Rattle.cli_files.proofs.Symbols.{found_vector}
use Rattle.cli_files.proofs.linking.vector_name.Goals as goal

pub returns : goal.returns
returns c =
    ap Some (c.as_bytes.ensures.value ∙ c.as_str.ensures.value)
    ∙ found_vector c.args.number c.args.layout.now.vectors.items c.as_slice.result.now (Some c.in_ok-vector.vector.now) c.as_slice.ensures.value c.in_ok-vector.ensures

pub returns-in_err-vector : goal.returns-in_err-vector
returns-in_err-vector c =
    rw c.from_residual.ensures (found_vector c.args.number c.args.layout.now.vectors.items c.as_slice.result.now None c.as_slice.ensures.value c.in_err-vector.ensures)
