use Rattle.std.proofs.Common.{◌∙◌, ap, drop}
use Rattle.std.proofs.lemmas.List.{drop-drop}
use Rattle.net.specs.Inbox.{Inbox}
use Rattle.net.proofs.inbox.Inbox.clear.Goals as goal

pub loop-preserved : goal.loop-preserved
loop-preserved c =
    let left = c.remove_first.ensures in
    let was = c.loop.invariant in
    record {
      longest = ap (λ (i : Inbox). i.longest) left ∙ was.longest;
      frames = ap (λ (i : Inbox). i.frames) left ∙ ap (drop 1) was.frames ∙ drop-drop 1 c.loop.counter c.args.self.now.frames;
      end = was.end;
    }
