use Rattle.vmig.proofs.Written.{nothing_more}
use Rattle.vmig.proofs.fault.Fault.write.Goals as goal

pub returns-in-NoMemory-clause-err : goal.returns-in-NoMemory-clause-err
returns-in-NoMemory-clause-err g c = rw c.in-NoMemory.is c.put.ensures.err

pub returns-in-Usage-clause-ok : goal.returns-in-Usage-clause-ok
returns-in-Usage-clause-ok g c = rw c.in-Usage.is c.put-in-Usage.ensures.ok

pub returns-in-Usage-clause-err : goal.returns-in-Usage-clause-err
returns-in-Usage-clause-err g c = rw c.in-Usage.is c.put-in-Usage.ensures.err

pub returns-in-Line-clause-ok : goal.returns-in-Line-clause-ok
returns-in-Line-clause-ok g c = rw c.in-Line.is c.put_number.ensures.ok

pub returns-in-Line-clause-err : goal.returns-in-Line-clause-err
returns-in-Line-clause-err g c = rw c.in-Line.is c.put_number.ensures.err

pub returns-in-Shape-clause-ok : goal.returns-in-Shape-clause-ok
returns-in-Shape-clause-ok g c = rw c.in-Shape.is c.put_number-in-Shape.ensures.ok

pub returns-in-Shape-clause-err : goal.returns-in-Shape-clause-err
returns-in-Shape-clause-err g c = rw c.in-Shape.is c.put_number-in-Shape.ensures.err

pub returns-in-Stream-clause-ok : goal.returns-in-Stream-clause-ok
returns-in-Stream-clause-ok g c = rw c.in-Stream.is c.put_number-in-Stream.ensures.ok

pub returns-in-Stream-clause-err : goal.returns-in-Stream-clause-err
returns-in-Stream-clause-err g c = rw c.in-Stream.is c.put_number-in-Stream.ensures.err

pub returns-in-StreamOut-clause-ok : goal.returns-in-StreamOut-clause-ok
returns-in-StreamOut-clause-ok g c = rw c.in-StreamOut.is c.put-in-StreamOut.ensures.ok

pub returns-in-StreamOut-clause-err : goal.returns-in-StreamOut-clause-err
returns-in-StreamOut-clause-err g c = rw c.in-StreamOut.is c.put-in-StreamOut.ensures.err

pub returns-in-NotEqual-clause-ok : goal.returns-in-NotEqual-clause-ok
returns-in-NotEqual-clause-ok g c = rw c.in-NotEqual.is (nothing_more (g.W.Write.contents c.args.out.now))
