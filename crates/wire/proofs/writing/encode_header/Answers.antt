use Rattle.std.proofs.Common.{◌≡◌, ℕ, ap, length, ◌∙◌}
use Rattle.std.specs.Prelude.{◌%◌}
use Rattle.wire.specs.Header.{front, spelled_shapes, version_of}
use Rattle.wire.proofs.HeaderLemmas.{front_low}
use Rattle.wire.proofs.Sinks.{then_appends, then_takes}
use Rattle.wire.proofs.writing.encode_header.Goals as goal

pub returns-clause-out : goal.returns-clause-out
returns-clause-out g c =
    let version = version_of c.args.shapes.now in
    let low = front_low version c.args.pages (length c.args.shapes.now) in
    let is : c.front_bytes.result ≡ front version c.args.pages (length c.args.shapes.now) = c.front_bytes.ensures ∙ ap (λ (v : ℕ). front v c.args.pages (length c.args.shapes.now % 4294967296)) c.version_of.ensures ∙ low in
    then_appends _ _ _ (front version c.args.pages (length c.args.shapes.now)) (spelled_shapes c.args.shapes.now) c.in_ok-put.field-0 c.write_shapes.result (rw is at c.in_ok-put.ensures.appends) c.write_shapes.ensures.out

pub returns-clause-taken : goal.returns-clause-taken
returns-clause-taken g c =
    let version = version_of c.args.shapes.now in
    let low = front_low version c.args.pages (length c.args.shapes.now) in
    let is : c.front_bytes.result ≡ front version c.args.pages (length c.args.shapes.now) = c.front_bytes.ensures ∙ ap (λ (v : ℕ). front v c.args.pages (length c.args.shapes.now % 4294967296)) c.version_of.ensures ∙ low in
    then_takes (g.S.Sink.sum c.args.out.now) (g.S.Sink.sum c.put.new.self) (g.S.Sink.sum c.write_shapes.new.out) (front version c.args.pages (length c.args.shapes.now)) (spelled_shapes c.args.shapes.now) c.write_shapes.result (rw is at c.in_ok-put.ensures.takes) c.write_shapes.ensures.taken
