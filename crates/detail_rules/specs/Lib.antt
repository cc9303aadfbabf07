pub mod DetailLines
pub mod DetailNumbers
pub mod Given
pub mod GivenPrinted
