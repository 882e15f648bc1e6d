pub mod SheetLayout
pub mod Sheets
pub mod ReaderAnswers
pub mod Sound
pub mod Thermal
pub mod Bytes
