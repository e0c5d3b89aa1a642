pub mod PrintingLaws
pub mod RoomLaws
