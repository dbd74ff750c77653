use Rattle.ctltarget.proofs.program.serve.Goals as goal

pub returns-in-Ok-clause-served : goal.returns-in-Ok-clause-served
returns-in-Ok-clause-served g c =
    let answered = c.target_one.ensures in
    rw c.in-Ok.is (record {
      done = answered.done;
      usage = answered.usage;
      unread = answered.unread;
      script = answered.script;
      too_long = answered.too_long;
      read = answered.read;
      write = answered.write;
      write_fault = answered.write_fault;
      unwritten = answered.unwritten;
      complete = answered.complete;
    })
