use Rattle.std.proofs.Common.{◌≡◌, sym, subst}
use Rattle.std.specs.Prelude.{true}
use Rattle.sender.specs.LiveState.{LiveSeenOver}
use Rattle.wire.proofs.ToldSinks.{owed_digest}
use Rattle.wire.specs.Telling.{EndsIn, is_owed}
use Rattle.sender.proofs.live.told.LiveOver+D+Told+M.tell.Goals as goal

pub tell-requires-clause-digest : goal.tell-requires-clause-digest
tell-requires-clause-digest g c =
    let digest = c.args.digest.now in
    let owed = subst (λ (l : LiveSeenOver _). is_owed l.digest ≡ true) (sym c.self.view_is) c.requires.owed in
    let ends = subst (λ (l : LiveSeenOver _). EndsIn l.out.held digest) (sym c.self.view_is) c.requires.digest in
    owed_digest c.self.inside.writer digest c.told-digest owed ends
