use Rattle.std.proofs.Common.{inr, length, map, refl}
use Rattle.std.proofs.lemmas.Result.{err_from_is_err_and}
use Rattle.vmig.specs.Allowing.{program_terms}
use Rattle.vmig.proofs.MemoryDisks.{refused_steadily}
use Rattle.vmig.proofs.checking.receive_headless.Goals as goal

pub returns-in_err-received-clause-failed : goal.returns-in_err-received-clause-failed
returns-in_err-received-clause-failed c =
    let told = err_from_is_err_and c.from_residual.result c.from_residual.ensures.1 in
    rw told.1 (inr (record {
      sizes = map length c.new-none.result.items;
      fit = inr (record { no_header = c.requires; none = rw c.new-none.ensures.items refl });
      refusal = _;
      refused = refused_steadily (program_terms c.args.outside) c.new-none.result.items c.args.bytes.now _ (rw c.program_terms.ensures at c.in_err-received.ensures.refused);
      is = told.2;
    }))
