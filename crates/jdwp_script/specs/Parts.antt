-- What a script says, apart from where it lies in memory: texts are their bytes of UTF-8, and ids their numbers.
use Rattle.std.specs.Prelude.{ℕ, ℤ, List, Option}
use Rattle.jdwp_wire.specs.Widths.{Widths}
use Rattle.jdwp_value.specs.declared.location.TypeTag.{TypeTag}
use Rattle.jdwp_value.specs.declared.tag.Tag.{Tag}
use Rattle.jdwp_script.specs.declared.script.Line.{Line}
use Rattle.jdwp_script.specs.declared.script.FieldValue.{FieldValue}
use Rattle.jdwp_script.specs.declared.step.Literal.{Literal}
use Rattle.jdwp_script.specs.declared.step.SlotValue.{SlotValue}
use Rattle.jdwp_script.specs.declared.step.Throw.{Throw}

-- a thread group; its parent is 0 where it has none, and so is the class that it is an object of where the script names none
pub record GroupPart : Type 0 where
  pub id : ℕ
  pub name : List ℕ
  pub parent : ℕ
  pub class : ℕ

-- a field of a class: a static one has a value
pub record FieldPart : Type 0 where
  pub id : ℕ
  pub name : List ℕ
  pub signature : List ℕ
  pub modifiers : ℤ
  pub value : Option Literal

-- a local variable of a method, and where it holds its slot
pub record SlotPart : Type 0 where
  pub from : ℕ
  pub name : List ℕ
  pub signature : List ℕ
  pub len : ℤ
  pub slot : ℤ

-- a method, and what an invocation of it answers, if the script says so
pub record MethodPart : Type 0 where
  pub id : ℕ
  pub name : List ℕ
  pub signature : List ℕ
  pub modifiers : ℤ
  pub args : ℤ
  pub last : ℕ
  pub lines : List Line
  pub slots : List SlotPart
  pub returns : Option Literal

-- a class; its superclass is 0 where it has none, and so is its module
pub record ClassPart : Type 0 where
  pub id : ℕ
  pub tag : TypeTag
  pub signature : List ℕ
  pub modifiers : ℤ
  pub superclass : ℕ
  pub interfaces : List ℕ
  pub source : Option (List ℕ)
  pub fields : List FieldPart
  pub methods : List MethodPart
  pub «module» : ℕ

-- the elements of an array: their tag, and the bits or the id of each
pub record ElementsPart : Type 0 where
  pub tag : Tag
  pub bits : List ℕ

pub record ObjectPart : Type 0 where
  pub id : ℕ
  pub class : ℕ
  pub fields : List FieldValue
  pub text : Option (List ℕ)
  pub array : Option ElementsPart

-- a frame as it begins
pub record CallPart : Type 0 where
  pub frame : ℕ
  pub class : ℕ
  pub method : ℕ
  pub this : ℕ
  pub slots : List SlotValue

-- a step of a thread
pub data StepPart : Type 0 where
  Call : CallPart → StepPart
  Go : ℕ → StepPart
  Return : Literal → StepPart
  Throwing : Throw → StepPart
  Prepare : ℕ → StepPart
  Start : ℕ → StepPart
  Again : ℕ → StepPart

-- a thread; the class that it is an object of is 0 where the script names none
pub record ThreadPart : Type 0 where
  pub id : ℕ
  pub name : List ℕ
  pub group : ℕ
  pub steps : List StepPart
  pub class : ℕ

pub record ModulePart : Type 0 where
  pub id : ℕ
  pub name : List ℕ

-- a script; its widths may be outside 1 to 8
pub record ScriptPart : Type 0 where
  pub name : List ℕ
  pub sizes : Widths
  pub groups : List GroupPart
  pub classes : List ClassPart
  pub objects : List ObjectPart
  pub threads : List ThreadPart
  pub modules : List ModulePart
