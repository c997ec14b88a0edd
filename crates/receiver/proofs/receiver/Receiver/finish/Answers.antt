use Rattle.receiver.proofs.Ending.{ends_refused}
use Rattle.receiver.proofs.receiver.Receiver.finish.Goals as goal

pub returns-in-Ok : goal.returns-in-Ok
returns-in-Ok g c =
    let f = c.in-Ok.ensures in
    record {
      arrived = f.arrived;
      received = f.received;
      marks = f.marks;
      based = f.based;
      within = f.within;
      ram_len = f.ram_len;
      fits = f.fits;
      refused = tt;
      whole = f.whole;
      told = tt;
      lacking = λ is. absurd is;
      place = f.place;
      already = f.already;
      goes_on = f.goes_on;
      back = tt;
    }

pub returns-in-Err : goal.returns-in-Err
returns-in-Err g c =
    let f = c.in-Err.ensures in
    ends_refused c.args.self c.in-Err.error f.refused f.told f.lacking f.already tt
