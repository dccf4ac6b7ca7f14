-- Laws of a book that recalculates.
mod EditLaws
mod SheetLaws
mod SettleLaws
mod Readings
mod NotingLaws
mod Samples
mod AskedCalls
mod Redeeming
mod BeginningLists
mod BeginningMeans
mod BeginningLoops
mod BeginningStates
