use Rattle.std.proofs.Common.{rules, arith}
use Rattle.std.proofs.lemmas.Grind.{common_steps}
use Rattle.jdwp_layout.proofs.writing.put_field.Goals as goal

pub returns-in-ObjectId-ObjectId-clause-ok : goal.returns-in-ObjectId-ObjectId-clause-ok
returns-in-ObjectId-ObjectId-clause-ok c = search rules

pub returns-in-ObjectId-ObjectId-clause-err : goal.returns-in-ObjectId-ObjectId-clause-err
returns-in-ObjectId-ObjectId-clause-err c = grind (arith, common_steps)

pub returns-in-ObjectId-ObjectId-clause-room : goal.returns-in-ObjectId-ObjectId-clause-room
returns-in-ObjectId-ObjectId-clause-room c = search rules

pub returns-in-Byte-Byte-clause-err : goal.returns-in-Byte-Byte-clause-err
returns-in-Byte-Byte-clause-err c = grind (arith, common_steps)

pub returns-in-Boolean-Boolean-clause-err : goal.returns-in-Boolean-Boolean-clause-err
returns-in-Boolean-Boolean-clause-err c = grind (arith, common_steps)

pub returns-in-Int-Int-clause-err : goal.returns-in-Int-Int-clause-err
returns-in-Int-Int-clause-err c = grind (arith, common_steps)

pub returns-in-Long-Long-clause-err : goal.returns-in-Long-Long-clause-err
returns-in-Long-Long-clause-err c = grind (arith, common_steps)

pub returns-in-String-String-clause-err : goal.returns-in-String-String-clause-err
returns-in-String-String-clause-err c = grind (arith, common_steps)

pub returns-in-ReferenceTypeId-ReferenceTypeId-clause-err : goal.returns-in-ReferenceTypeId-ReferenceTypeId-clause-err
returns-in-ReferenceTypeId-ReferenceTypeId-clause-err c = grind (arith, common_steps)

pub returns-in-MethodId-MethodId-clause-err : goal.returns-in-MethodId-MethodId-clause-err
returns-in-MethodId-MethodId-clause-err c = grind (arith, common_steps)

pub returns-in-FieldId-FieldId-clause-err : goal.returns-in-FieldId-FieldId-clause-err
returns-in-FieldId-FieldId-clause-err c = grind (arith, common_steps)

pub returns-in-FrameId-FrameId-clause-err : goal.returns-in-FrameId-FrameId-clause-err
returns-in-FrameId-FrameId-clause-err c = grind (arith, common_steps)

pub returns-in-Location-Location-clause-err : goal.returns-in-Location-Location-clause-err
returns-in-Location-Location-clause-err c = grind (arith, common_steps)

pub returns-in-Value-Value-clause-err : goal.returns-in-Value-Value-clause-err
returns-in-Value-Value-clause-err c = grind (arith, common_steps)

pub returns-in-TaggedId-TaggedId-clause-err : goal.returns-in-TaggedId-TaggedId-clause-err
returns-in-TaggedId-TaggedId-clause-err c = grind (arith, common_steps)

pub returns-in_default : goal.returns-in_default
returns-in_default c = grind (arith, common_steps)

pub returns-in_default-2 : goal.returns-in_default-2
returns-in_default-2 c = grind (arith, common_steps)

pub returns-in_default-3 : goal.returns-in_default-3
returns-in_default-3 c = grind (arith, common_steps)

pub returns-in_default-4 : goal.returns-in_default-4
returns-in_default-4 c = grind (arith, common_steps)

pub returns-in_default-5 : goal.returns-in_default-5
returns-in_default-5 c = grind (arith, common_steps)

pub returns-in_default-6 : goal.returns-in_default-6
returns-in_default-6 c = grind (arith, common_steps)

pub returns-in_default-7 : goal.returns-in_default-7
returns-in_default-7 c = grind (arith, common_steps)

pub returns-in_default-8 : goal.returns-in_default-8
returns-in_default-8 c = grind (arith, common_steps)

pub returns-in_default-9 : goal.returns-in_default-9
returns-in_default-9 c = grind (arith, common_steps)

pub returns-in_default-10 : goal.returns-in_default-10
returns-in_default-10 c = grind (arith, common_steps)

pub returns-in_default-11 : goal.returns-in_default-11
returns-in_default-11 c = grind (arith, common_steps)

pub returns-in_default-12 : goal.returns-in_default-12
returns-in_default-12 c = grind (arith, common_steps)

pub returns-in_default-13 : goal.returns-in_default-13
returns-in_default-13 c = grind (arith, common_steps)
